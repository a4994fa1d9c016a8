-- Laws about the definitions of specs/.
pub mod ByteLaws
pub mod CallLaws
pub mod FrameLaws
pub mod LayoutLaws
pub mod LegalLaws
pub mod PilotLaws
pub mod PlaceLaws
pub mod ResultLaws
pub mod RunLaws
