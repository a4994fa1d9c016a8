-- The profiles, 16-QAM and QPSK, and the modulation of each.
-- Assumes nothing.
use Rattle.std.specs.Prelude.{refl}
use Rattle.profile.specs.declared.Profile.{Profile}
use Rattle.profile.specs.declared.Profile.TheVariants.{Qam16, Qpsk}
use Rattle.cells_spec.specs.Modulation.{Modulation}
use Rattle.cells_spec.specs.Qam16 as Q16
use Rattle.cells_spec.proofs.Qam16Laws as Q16L
use Rattle.cells_spec.specs.Qpsk as Q
use Rattle.cells_spec.proofs.QpskLaws as QL

-- 01, "Cells".
unfoldable pub qam16 : Modulation
unfolding Q16.cell_byte
qam16 =
    record {
      bits = 8;
      cell = Q16.cell_byte;
      illegal = Q16.illegal;
      low = Q16L.low;
      whole = refl;
      cell_legal = Q16L.cell_legal;
      cell_only = Q16L.cell_only;
      cell_reached = Q16L.cell_reached;
    }

-- 02, E1.
unfoldable pub qpsk : Modulation
unfolding Q.cell_byte
qpsk =
    record {
      bits = 4;
      cell = Q.cell_byte;
      illegal = Q.illegal;
      low = QL.low;
      whole = refl;
      cell_legal = QL.cell_legal;
      cell_only = QL.cell_only;
      cell_reached = QL.cell_reached;
    }

unfoldable pub modulation : Profile → Modulation
modulation Qam16 = qam16
modulation Qpsk = qpsk
