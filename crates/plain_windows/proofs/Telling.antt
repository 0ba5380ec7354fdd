-- What an answer tells of the instance that is looked for.
use Rattle.std.proofs.Common.{◌≡◌, ◌∙◌, List, Option, None, Some, ap, sym}
use Rattle.stream_base.specs.declared.kept.Kept.{Kept}
use Rattle.stream_base.specs.Model.Windows.{Instance}
use Rattle.plain_windows.specs.declared.extent.Extent.{Extent}
use Rattle.plain_windows.specs.Extents.{IsExtentIn, Tells, instance_in}

-- none tells that there is none
pub tells_none : (kept : List Kept) (instance : Option Instance) → instance ≡ None → Tells kept None instance
tells_none kept instance none = record { found = sym none; inside = tt }

-- an extent tells its own instance
pub tells_one : (kept : List Kept) (e : Extent) (i : Instance) (instance : Option Instance) → IsExtentIn kept e → instance_in kept e ≡ i → instance ≡ Some i → Tells kept (Some e) instance
tells_one kept e i instance inside is one = record { found = ap Some is ∙ sym one; inside = inside }
