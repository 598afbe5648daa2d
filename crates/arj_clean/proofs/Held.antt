-- What disks hold, and what they are to hold.
use Rattle.std.proofs.Common.{◌≡◌, ◌≢◌, ℕ, List, [], ◌∷◌, Bool, true, false, Option, Some, None, cond, ◌==◌, ◌<◌, zero, suc, length, get_or, refl, sym, ◌∙◌, ap, subst, arith}
use Rattle.std.specs.Prelude.{MatchBool, find, is_some}
use Rattle.std.proofs.lemmas.Bool.{eq-eqb, eqb-true}
use Rattle.std.specs.List.{AllByRecursion}
use Rattle.std.specs.Option.{unwrap_or}
use Rattle.arj_clean.specs.Clean.{AreClean, HoldsLast, IsObjectClean, StoresHoldLast}
use Rattle.arj_base.specs.State.{state_bytes}
use Rattle.arj_base.specs.Uid.{entry, object}
use Rattle.arj_disk.specs.declared.slot.Role.TheVariants.{Names, Store}
use Rattle.arj_journal.specs.declared.body.Line.{Line}
use Rattle.arj_journal.specs.declared.header.Header.{Header}
use Rattle.arj_journal.specs.declared.header.ObjectLine.{ObjectLine}
use Rattle.arj_model.specs.Disks.{Disks, InDoubt, held}
use Rattle.arj_model.specs.Last.{entry_state, last_state, listed, object_line}

-- nothing is held where something is to be
pub none_held : (h : Option (List ℕ)) (w : List ℕ) → None ≡ h → h ≡ Some w → ⊥
none_held h w e f = absurd (let never : None ≡ Some w = e ∙ f in cc never)

some_is : (a b : List ℕ) → Some a ≡ Some b → a ≡ b
some_is a b e = ap (λ o. unwrap_or o []) e

-- what is held is what is to be exactly where its bytes are
pub held_test : (b : Bool) (s w : List ℕ) (h : Option (List ℕ)) → Some s ≡ h → MatchBool b (s ≡ w) (s ≢ w) → MatchBool b (h ≡ Some w) (h ≡ Some w → ⊥)
held_test true s w h is same = sym is ∙ ap Some same
held_test false s w h is other = λ e. other (some_is s w (is ∙ e))

-- where nothing is in doubt there
pub holds_test : (b : Bool) (header : Header) (lines : List Line) (disks : Disks) (x s : ℕ) → (InDoubt (disks s) Store (object x) → ⊥) →
    MatchBool b (held (disks s) Store (object x) ≡ Some (state_bytes (last_state header lines x))) (held (disks s) Store (object x) ≡ Some (state_bytes (last_state header lines x)) → ⊥) →
    MatchBool b (HoldsLast header lines disks x s) (HoldsLast header lines disks x s → ⊥)
holds_test true header lines disks x s sure is = λ _. is
holds_test false header lines disks x s sure isnt = λ h. isnt (h sure)

-- an object is clean
pub object_test : (b : Bool) (header : Header) (lines : List Line) (disks : Disks) (x : ℕ) → (InDoubt (disks 1) Names (entry x) → ⊥) →
    held (disks 1) Names (entry x) ≡ Some (state_bytes (entry_state header lines x)) →
    MatchBool b (StoresHoldLast header lines disks x (listed header lines x)) (StoresHoldLast header lines disks x (listed header lines x) → ⊥) →
    MatchBool b (IsObjectClean header lines disks x) (IsObjectClean header lines disks x → ⊥)
object_test true header lines disks x sure is stores = λ _. (is, stores)
object_test false header lines disks x sure is no_stores = λ h. no_stores (h sure).1

-- ---- all objects

-- an object of the header is one of its lines'
pub line_among : (x : ℕ) (os : List ObjectLine) (P : ℕ → Type 0) → AllByRecursion (λ o. P o.x) os → is_some (find (λ p. p.x == x) os) ≡ true → P x
line_among x [] P h e = absurd (cc e)
line_among x (o ∷ os) P h e = by (o.x == x) refl (line_among x os P h.1) e
  where
    by : (b : Bool) → (o.x == x) ≡ b → (is_some (find (λ p. p.x == x) os) ≡ true → P x) → is_some (cond b (Some o) (find (λ p. p.x == x) os)) ≡ true → P x
    by true same rest g = subst P (eqb-true o.x x same) h.0
    by false other rest g = rest g

line_there : (os : List ObjectLine) (n : ℕ) (o : ObjectLine) → n < length os → o ≡ get_or os n o → is_some (find (λ p. p.x == o.x) os) ≡ true
line_there [] n o lt is = absurd (omega (arith, lt))
line_there (p ∷ os) zero o lt is = ap (λ b. is_some (cond b (Some p) (find (λ q. q.x == o.x) os))) (eq-eqb p.x o.x (ap (λ q. q.x) (sym is)))
line_there (p ∷ os) (suc n) o lt is = by (p.x == o.x) (line_there os n o (omega (arith, lt)) is)
  where
    by : (b : Bool) → is_some (find (λ q. q.x == o.x) os) ≡ true → is_some (cond b (Some p) (find (λ q. q.x == o.x) os)) ≡ true
    by true e = refl
    by false e = e

some_of : (o : Option ObjectLine) → is_some o ≡ true → (p : ObjectLine) × (o ≡ Some p)
some_of None e = absurd (cc e)
some_of (Some p) e = (p, refl)

-- an object of a line of the header is one of the header's
pub has_line : (header : Header) (os : List ObjectLine) (n : ℕ) (o : ObjectLine) → os ≡ header.objects → n < length os → o ≡ get_or os n o →
    (p : ObjectLine) × (object_line header o.x ≡ Some p)
has_line header os n o same lt is = some_of (object_line header o.x) (ap (λ ps. is_some (find (λ q. q.x == o.x) ps)) (sym same) ∙ line_there os n o lt is)

-- it has no object that isn't clean
pub all_clean : (header : Header) (lines : List Line) (disks : Disks) (os : List ObjectLine) → os ≡ header.objects →
    AllByRecursion (λ o. IsObjectClean header lines disks o.x) os → AreClean header lines disks
all_clean header lines disks os same all x e =
    line_among x os (IsObjectClean header lines disks) all (ap (λ ps. is_some (find (λ q. q.x == x) ps)) same ∙ e)

pub not_clean : (header : Header) (lines : List Line) (disks : Disks) (o p : ObjectLine) → object_line header o.x ≡ Some p →
    (IsObjectClean header lines disks o.x → ⊥) → AreClean header lines disks → ⊥
not_clean header lines disks o p is isnt clean = isnt (clean o.x (ap is_some is))

-- an object in doubt is clean, and a store in doubt
pub doubted_store : (header : Header) (lines : List Line) (disks : Disks) (x s : ℕ) → InDoubt (disks s) Store (object x) → HoldsLast header lines disks x s
doubted_store header lines disks x s doubt = λ sure. absurd (sure doubt)

pub doubted_object : (header : Header) (lines : List Line) (disks : Disks) (x : ℕ) → InDoubt (disks 1) Names (entry x) → IsObjectClean header lines disks x
doubted_object header lines disks x doubt = λ sure. absurd (sure doubt)

-- another entry is held
pub other_entry : (header : Header) (lines : List Line) (disks : Disks) (x : ℕ) → (InDoubt (disks 1) Names (entry x) → ⊥) →
    (held (disks 1) Names (entry x) ≡ Some (state_bytes (entry_state header lines x)) → ⊥) → IsObjectClean header lines disks x → ⊥
other_entry header lines disks x sure other clean = other (clean sure).0
