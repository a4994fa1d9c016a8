-- Repair of a word, 01, "Code words": "Repair yields the only code word within two flips and the number of flips, 0 to 2; if none
-- exists, the word is lost and unaltered." It is a search through all flips, none, one and two; that what it yields is the only
-- code word there is a law (RepairTheorems.antt).
-- Assumes nothing.
use Rattle.std.specs.Prelude.{Bool, true, false, cond, List, [], ◌∷◌, ◌++◌, map, ℕ, zero, suc}
use Rattle.bits.specs.Bits.{flipped}
use Rattle.word_spec.specs.CodeWord.{Word, is_code_word}
use Rattle.word_spec.specs.declared.Repair.{Repair}
use Rattle.word_spec.specs.declared.Repair.TheVariants.{Sound, One, Two, Lost}

-- The places that a repair flips, rising.
unfoldable pub places : Repair → List ℕ
places Sound = []
places (One i) = i ∷ []
places (Two i j) = i ∷ j ∷ []
places Lost = []

-- A word with all places of a list flipped.
unfoldable pub flip_all : List ℕ → Word → Word
flip_all [] w = w
flip_all (i ∷ is) w = flipped i (flip_all is w)

-- The word that a repair yields; a lost one "is lost and unaltered".
unfoldable pub repaired : Repair → Word → Word
repaired r w = flip_all (places r) w

-- The number of a repair: "the number of flips, 0 to 2", and 3 for lost, as in the marks.
unfoldable pub mark : Repair → ℕ
mark Sound = 0
mark (One i) = 1
mark (Two i j) = 2
mark Lost = 3

-- "the call says whether flips may fall in the front half; where they may not, only back-half flips count": flips fall from this
-- place on.
abbrev pub first_place : Bool → ℕ
first_place true = 0
first_place false = 128

-- The n numbers a, a + 1, ...
unfoldable pub from : ℕ → ℕ → List ℕ
from a zero = []
from a (suc n) = a ∷ from (suc a) n

-- The places at which flips may fall.
abbrev pub open_places : Bool → List ℕ
open_places true = from 0 256
open_places false = from 128 128

-- All ways to flip two of the places, and at most two of them, fewest first.
unfoldable pub two_flips : List ℕ → List Repair
two_flips [] = []
two_flips (i ∷ is) = map (Two i) is ++ two_flips is

unfoldable pub candidates : List ℕ → List Repair
candidates is = Sound ∷ (map One is ++ two_flips is)

-- The first that passes a test; lost where none does.
unfoldable pub first_that : (Repair → Bool) → List Repair → Repair
first_that test [] = Lost
first_that test (r ∷ rs) = cond (test r) r (first_that test rs)

-- The repair of a word; the flag says whether flips may fall in the front half.
unfoldable pub repair : Bool → Word → Repair
repair front w = first_that (λ r. is_code_word (repaired r w)) (candidates (open_places front))
