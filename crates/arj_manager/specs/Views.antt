-- Two ways to keep what open actions wrote on one object, both read off its stack: what each action wrote, and what stood
-- there before each action wrote.
use Rattle.std.specs.Prelude.{◌≡◌, ◌⊎◌, true, false, if◌then◌else◌, List, [], ◌∷◌, Option, Some, None, option_map, ⊤}
use Rattle.arj_base.specs.declared.uid.Uid.{Uid}
use Rattle.arj_base.specs.Rows.{front, last_uid}
use Rattle.arj_base.specs.Uid.{uid_eq}
use Rattle.arj_class.specs.declared.value.Value.{Value}
use Rattle.arj_protocol.specs.Copy.{Over, Base, current, is_of, over_of}

-- what the action wrote
abbrev pub overlay : List Over → Uid → Option Value
overlay es a = option_map (λ (e : Over). e.value) (over_of a es)

-- what an abort of the action goes back to: what stands under its overlay
abbrev pub image : Base → List Over → Uid → Option Value
image base [] a = None
image base (e ∷ es) a = if is_of a e then Some (current base es) else image base es a

-- no action has two overlays
abbrev pub IsOneOver : List Over → Type 0
IsOneOver [] = ⊤
IsOneOver (e ∷ es) = (over_of (last_uid e.holder) es ≡ None) × IsOneOver es

-- The action may write: its overlay is the deepest, or it has none. Its lock sees to it.
abbrev pub MayWrite : Uid → List Over → Type 0
MayWrite u [] = ⊤
MayWrite u (e ∷ es) = (is_of u e ≡ true) ⊎ (over_of u (e ∷ es) ≡ None)

-- the image that stays: an older one, or else this
abbrev pub older : Option Value → Value → Value
older None now = now
older (Some image) now = image

-- The deepest overlay is of a nested action, which has no other one; its parent may write what stands under it.
pub record IsNested (e : Over) (es : List Over) : Type 0 where
  pub only : over_of (last_uid e.holder) es ≡ None
  pub apart : uid_eq (last_uid e.holder) (last_uid (front e.holder)) ≡ false
  pub parent : MayWrite (last_uid (front e.holder)) es
