-- One object at the naming service, as it stays whatever comes.
use Rattle.std.specs.Prelude.{◌≡◌, ◌⊎◌, ◌≤◌, ℕ, List, [], ◌∷◌, true, false, Some, None, ⊤}
use Rattle.arj_base.specs.declared.binding.Binding.{Binding}
use Rattle.arj_base.specs.declared.uid.Uid.{Uid}
use Rattle.arj_base.specs.Order.{uid_order}
use Rattle.std.specs.declared.cmp.Ordering.TheVariants.{Less}
use Rattle.arj_base.specs.declared.path.Path.{Path}
use Rattle.arj_base.specs.Rows.{is_on}
use Rattle.arj_protocol.specs.Ask.{top_path}
use Rattle.arj_protocol.specs.Named.{Named, Made, Live}
use Rattle.arj_protocol.specs.Order.{at_uid, binding_less}
use Rattle.arj_law_parts.specs.parts.Rows.{Told, HasLock, AreGoodRows}
use Rattle.arj_law_parts.specs.parts.Tops.{Owners, IsTop}

-- each key is above this one
abbrev pub AreAbove : {X : Type 0} → Uid → List (Uid × X) → Type 0
AreAbove k [] = ⊤
AreAbove k (e ∷ es) = (uid_order k e.0 ≡ Less) × AreAbove k es

-- the keys increase
abbrev pub AreSorted : {X : Type 0} → List (Uid × X) → Type 0
AreSorted [] = ⊤
AreSorted (e ∷ es) = AreAbove e.0 es × AreSorted es

-- a binding of this incarnation, of those that were counted so far
abbrev pub IsCounted : ℕ → ℕ → Binding → Type 0
IsCounted inc count b = (b.inc ≡ inc) × (b.count ≤ count)

-- A binding that was made for a top and isn't recorded yet: the top has the write lock, and the binding is above the one
-- that was recorded last.
pub record IsUnrecorded (top : Uid) (m : Made) (o : Named) : Type 0 where
  pub lock : HasLock top 2 o.rows
  pub above : (b : Binding) → o.recorded ≡ Some b → binding_less b m.binding ≡ true

-- What holds of an object, with the incarnation of naming and its count of bindings. What is promised of a top's lock
-- is promised while its owner's end isn't told: an owner's abort drops the locks of a top whose own end may be lost.
pub record IsGoodObject (owner : Owners) (told : Told) (inc count x : ℕ) (o : Named) : Type 0 where
  pub rows : AreGoodRows owner told x o.rows
  pub sorted : AreSorted o.made
  pub unmade : (u : Uid) → told u ≡ true → at_uid u o.made ≡ None
  pub unasked : (u : Uid) → told u ≡ true → is_on o.asked u ≡ false
  pub asked : (t : Uid) → is_on o.asked t ≡ true → told (owner t) ≡ false → HasLock t 2 o.rows
  pub made : (t : Uid) (m : Made) → at_uid t o.made ≡ Some m → IsTop owner t × IsCounted inc count m.binding
  pub recorded : (b : Binding) → o.recorded ≡ Some b → IsCounted inc count b
  pub live : (l : Live) → o.live ≡ Some l → o.recorded ≡ Some l.binding
  pub unrecorded : (t : Uid) (m : Made) → at_uid t o.made ≡ Some m → m.recorded ≡ false → told (owner t) ≡ false → IsUnrecorded t m o

-- Who was told of their ends, before and after an action is.
pub record IsToldOf (told later : Told) (u : Uid) : Type 0 where
  pub itself : later u ≡ true
  pub before : (w : Uid) → told w ≡ true → later w ≡ true
  pub only : (w : Uid) → later w ≡ true → (told w ≡ true) ⊎ (w ≡ u)

-- nobody on the path of a request, from its root to its top, was told
abbrev pub Untold : Told → Path → Type 0
Untold told p = (u : Uid) → told u ≡ true → is_on (top_path p) u ≡ false
