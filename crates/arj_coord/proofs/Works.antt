-- Actions at work, changed at their places.
use Rattle.std.proofs.Common.{◌≡◌, ℕ, ◌<◌, ◌==◌, suc, List, true, false, refl, ap, sym, ◌∙◌, subst, Option, Some, None, get_or, arith}
use Rattle.std.proofs.lemmas.Bool.Decides.{nat_tests}
use Rattle.std.proofs.lemmas.Option.{slice_get_read}
use Rattle.std.specs.Prelude.{slice_get, slice_set, length, option_map}
use Rattle.arj_protocol.specs.Coord.{Coord, Doing, Idle, uid_at, doing_of, on_doing, change_doing}
use Rattle.arj_protocol.specs.Step.{branch_numbered}
use Rattle.arj_protocol.specs.Tree.{Tree, at_place, branch_of, is_own}
use Rattle.arj_protocol.specs.Words.{Uid}
use Rattle.arj_tree.specs.Stands.{parent_in}
use Rattle.arj_coord.specs.Waiting.{changed_at, changed_by, now_in}

-- an action at a place that was changed
pub changed_is : (f : Doing → Doing) (k number : ℕ) (ds : List Doing) (c d : Doing) → slice_get ds k ≡ Some c → number ≡ suc k → d ≡ f c →
    slice_set ds k d ≡ changed_at number f ds
changed_is f k number ds c d at number_is is = ap (slice_set ds k) is ∙ (rw (number_is, at) refl)

-- what was read at a place stands there
pub read_at : (ds shown : List Doing) (k : ℕ) (d : Doing) → ds ≡ shown → k < length shown → d ≡ get_or ds k d → slice_get ds k ≡ Some d
read_at ds shown k d same within read = slice_get_read ds (length ds) k d refl (subst (λ ds. k < length ds) (sym same) within) read

pub read_shown : (ds shown : List Doing) (k : ℕ) (d : Doing) → ds ≡ shown → k < length shown → d ≡ get_or ds k d →
    slice_get shown k ≡ Some d
read_shown ds shown k d same within read = ap (λ ds. slice_get ds k) (sym same) ∙ read_at ds shown k d same within read

pub read_number : (ds shown : List Doing) (k number : ℕ) (d : Doing) → ds ≡ shown → k < length shown → d ≡ get_or ds k d → number ≡ suc k →
    at_place number shown ≡ Some d
read_number ds shown k number d same within read is = ap (λ m. at_place m shown) is ∙ read_shown ds shown k d same within read

-- nothing changes where there is no action
pub none_changed : (f : Doing → Doing) (number : ℕ) (ds : List Doing) → at_place number ds ≡ None → ds ≡ changed_at number f ds
none_changed f number ds none = rw none refl

same_number : (n : ℕ) → (n == n) ≡ true
same_number n = grind (arith, nat_tests)

-- the action of a number
pub numbered_is : (k : ℕ) (t : Tree) → branch_of (record { node = t.node; inc = t.inc; num = k }) t ≡ at_place k t.branches
numbered_is k t = rw (same_number t.node, same_number t.inc) refl

-- the action that a label names
pub named_is : (found : Option ℕ) (c : Coord) → parent_in (option_map (λ k. uid_at k c) found) c.tree ≡ branch_numbered c found
named_is None c = refl
named_is (Some k) c = numbered_is k c.tree

-- an action of this node that changed
pub own_changed : (u : Uid) (f : Doing → Doing) (c : Coord) → is_own u c.tree ≡ true →
    record c { doings = changed_at u.num f c.doings } ≡ on_doing u f c
own_changed u f c own = rw own (by (at_place u.num c.doings))
  where
    by : (o : Option Doing) → record c { doings = changed_by f u.num c.doings o } ≡ change_doing f u c o
    by None = refl
    by (Some d) = refl

-- nothing changes of another one
pub other_stays : (u : Uid) (f : Doing → Doing) (c : Coord) → is_own u c.tree ≡ false → c ≡ on_doing u f c
other_stays u f c other = rw other refl

-- what an action of this node waits for, and another one nothing
pub own_waits : (u : Uid) (c : Coord) → is_own u c.tree ≡ true → now_in (at_place u.num c.doings) ≡ now_in (doing_of u c)
own_waits u c own = rw own refl

pub other_waits : (u : Uid) (c : Coord) → is_own u c.tree ≡ false → Idle ≡ now_in (doing_of u c)
other_waits u c other = rw other refl
