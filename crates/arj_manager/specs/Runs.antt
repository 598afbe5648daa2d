-- A list of calls on one object, by its stack, by what each action wrote, and by what stood there before.
use Rattle.std.specs.Prelude.{◌≡◌, ℕ, not, if◌then◌else◌, List, [], ◌∷◌, Option, Some, None, filter, ⊤}
use Rattle.std.specs.Option.{option_or}
use Rattle.arj_base.specs.declared.uid.Uid.{Uid}
use Rattle.arj_base.specs.Rows.{front, last_uid}
use Rattle.arj_base.specs.Uid.{uid_eq}
use Rattle.arj_class.specs.declared.value.Value.{Value}
use Rattle.arj_protocol.specs.Copy.{Over, Base, current, is_of, over_of, written, folded, raised}
use Rattle.arj_manager.specs.Views.{image, older, MayWrite, IsNested}

-- a write by the action of a path, a nested commit with the action's parent, the abort of the action with the deepest
-- overlay, or a top's commit
pub data Step : Type 0 where
  Write : List Uid → ℕ → Value → Step
  Nested : Uid → Uid → Step
  Abort : Uid → Step
  Top : Uid → Step

-- what stands under the deepest overlay
abbrev pub under : List Over → List Over
under [] = []
under (e ∷ es) = es

-- the stack after a call
abbrev pub stack_step : Step → List Over → List Over
stack_step (Write holder tops v) es = written holder tops v es
stack_step (Nested u h) es = folded u es
stack_step (Abort u) es = under es
stack_step (Top u) es = filter (λ o. not (is_of u o)) es

-- the state under all overlays after a call: a top's commit alone changes it
abbrev pub base_step : Step → Base → List Over → Base
base_step (Top u) base es = raised u (current base es) base
base_step _ base es = base

-- What locks and the order of ends see to: who writes has the deepest overlay or none, and an end is of the deepest
-- one.
abbrev pub May : Step → List Over → Type 0
May (Write holder tops v) es = MayWrite (last_uid holder) es
May (Nested u h) [] = ⊥
May (Nested u h) (e ∷ es) = IsNested e es × (last_uid e.holder ≡ u) × (last_uid (front e.holder) ≡ h)
May (Abort u) [] = ⊥
May (Abort u) (e ∷ es) = (over_of (last_uid e.holder) es ≡ None) × (last_uid e.holder ≡ u)
May (Top u) [] = ⊥
May (Top u) (e ∷ es) = (es ≡ []) × (last_uid e.holder ≡ u)

-- and so for each call of a list
abbrev pub AllMay : List Step → List Over → Type 0
AllMay [] es = ⊤
AllMay (s ∷ ss) es = May s es × AllMay ss (stack_step s es)

-- the stack after a list of calls
abbrev pub stack_run : List Step → List Over → List Over
stack_run [] es = es
stack_run (s ∷ ss) es = stack_run ss (stack_step s es)

-- the state under all overlays after a list of calls
abbrev pub base_run : List Step → Base → List Over → Base
base_run [] base es = base
base_run (s ∷ ss) base es = base_run ss (base_step s base es) (stack_step s es)

-- ---- by what each action wrote

-- A write is the action's; a nested commit gives the parent what the action wrote; after any end the action has written
-- nothing.
abbrev pub overlay_step : Step → (Uid → Option Value) → Uid → Option Value
overlay_step (Write holder tops v) o b = if uid_eq (last_uid holder) b then Some v else o b
overlay_step (Nested u h) o b = if uid_eq h b then o u else (if uid_eq u b then None else o b)
overlay_step (Abort u) o b = if uid_eq u b then None else o b
overlay_step (Top u) o b = if uid_eq u b then None else o b

-- what each action wrote after a list of calls
abbrev pub overlay_run : List Step → (Uid → Option Value) → Uid → Option Value
overlay_run [] o = o
overlay_run (s ∷ ss) o = overlay_run ss (overlay_step s o)

-- ---- by what stood there before

-- the value in place, and for each action that wrote the value before its first write
pub record Images : Type 0 where
  pub now : Value
  pub before : Uid → Option Value

-- A first write keeps the value that stood there; a nested commit gives the parent the image where it has none; an
-- abort goes back to the image; after any end the action has none.
abbrev pub image_step : Step → Images → Images
image_step (Write holder tops v) i =
    record { now = v; before = λ b. if uid_eq (last_uid holder) b then Some (older (i.before (last_uid holder)) i.now) else i.before b }
image_step (Nested u h) i =
    record {
      now = i.now;
      before =
          λ b. if uid_eq h b then option_or (i.before h) (i.before u) else (if uid_eq u b then None else i.before b);
    }
image_step (Abort u) i = record { now = older (i.before u) i.now; before = λ b. if uid_eq u b then None else i.before b }
image_step (Top u) i = record { now = i.now; before = λ b. if uid_eq u b then None else i.before b }

-- value and images after a list of calls
abbrev pub image_run : List Step → Images → Images
image_run [] i = i
image_run (s ∷ ss) i = image_run ss (image_step s i)

-- value and images as a stack has them
abbrev pub images : Base → List Over → Images
images base es = record { now = current base es; before = image base es }
