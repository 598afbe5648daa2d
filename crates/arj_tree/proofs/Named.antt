-- The names of actions as actions begin and change.
use Rattle.std.proofs.Common.{add-zero, get_or, ◌<◌, ◌≡◌, ℕ, ◌+◌, ◌==◌, zero, suc, List, [], ◌∷◌, ◌++◌, length, refl, ap, sym, ◌∙◌, subst}
use Rattle.std.proofs.Common.{true, Some, arith}
use Rattle.std.proofs.lemmas.Option.{slice_get_read}
use Rattle.std.specs.Prelude.{slice_get, slice_set}
use Rattle.arj_protocol.specs.Ask.{actor}
use Rattle.std.proofs.lemmas.Bool.{and_parts}
use Rattle.std.proofs.lemmas.Bool.Decides.{nat_tests}
use Rattle.arj_protocol.specs.Tree.{Tree, Branch, branch_of}
use Rattle.arj_protocol.specs.Words.{Uid, uids_of, last_uid}
use Rattle.arj_tree.specs.Stands.{AreNamed, IsPlace}
use Rattle.arj_start.specs.Kinds.{is_serial}

-- an action that begins is named by the next place
pub named_begun : (node inc n : ℕ) (bs : List Branch) (b : Branch) → AreNamed node inc n bs →
    actor b.path ≡ record { node = node; inc = inc; num = n + length bs } → (is_serial b.kind ≡ true → length (uids_of b.path) ≡ 1) →
    AreNamed node inc n (bs ++ b ∷ [])
named_begun node inc n [] b all named single =
    (named ∙ ap (λ (k : ℕ). record { node = node; inc = inc; num = k }) (add-zero n), (single, tt))
named_begun node inc n (c ∷ bs) b all named single =
    let place : n + suc (length bs) ≡ (n + 1) + length bs = omega arith in (
      all.0,
      (
        all.1.0,
        named_begun node inc (n + 1) bs b all.1.1 (named ∙ ap (λ (k : ℕ). record {
          node = node;
          inc = inc;
          num =
              k;
        }) place) single,
      ),
    )

-- an action that keeps its path and its kind keeps its name
pub named_changed : (node inc n k : ℕ) (bs : List Branch) (b c : Branch) → AreNamed node inc n bs → slice_get bs k ≡ Some b →
    c.path ≡ b.path → c.kind ≡ b.kind → AreNamed node inc n (slice_set bs k c)
named_changed node inc n k [] b c all at path kind = tt
named_changed node inc n zero (d ∷ bs) b c all at path kind =
    let same : d ≡ b = cc at in (
      ap actor (path ∙ ap (λ (x : Branch). x.path) (sym same)) ∙ all.0,
      ((λ serial. ap (λ p. length (uids_of p)) (path ∙ ap (λ (x : Branch). x.path) (sym same)) ∙ all.1.0 (ap is_serial (ap (λ (x : Branch). x.kind) same ∙ sym kind) ∙ serial)), all.1.1),
    )
named_changed node inc n (suc k) (d ∷ bs) b c all at path kind =
    (all.0, (all.1.0, named_changed node inc (n + 1) k bs b c all.1.1 at path kind))

-- an action at a place has the name of the place
pub named_at : (node inc n k : ℕ) (bs : List Branch) (b : Branch) → AreNamed node inc n bs → slice_get bs k ≡ Some b →
    actor b.path ≡ record { node = node; inc = inc; num = n + k }
named_at node inc n k [] b all at = absurd (cc at)
named_at node inc n zero (d ∷ bs) b all at =
    let same : d ≡ b =
    cc at in ap (λ (x : Branch). actor x.path) (sym same) ∙ all.0 ∙ ap (λ (k : ℕ). record {
      node = node;
      inc = inc;
      num =
          k;
    }) (sym (add-zero n))
named_at node inc n (suc k) (d ∷ bs) b all at =
    let place : (n + 1) + k ≡ n + suc k = omega arith in
    named_at node inc (n + 1) k bs b all.1.1 at ∙ ap (λ (k : ℕ). record { node = node; inc = inc; num = k }) place

-- a serializing action stands below no other
pub single_at : (node inc n k : ℕ) (bs : List Branch) (b : Branch) → AreNamed node inc n bs → slice_get bs k ≡ Some b →
    is_serial b.kind ≡ true → length (uids_of b.path) ≡ 1
single_at node inc n k [] b all at serial = absurd (cc at)
single_at node inc n zero (d ∷ bs) b all at serial =
    let same : d ≡ b =
    cc at in ap (λ (x : Branch). length (uids_of x.path)) (sym same) ∙ all.1.0 (ap (λ (x : Branch). is_serial x.kind) same ∙ serial)
single_at node inc n (suc k) (d ∷ bs) b all at serial = single_at node inc (n + 1) k bs b all.1.1 at serial

-- a Uid put at the end of a path is its last
pub last_pushed : (us : List Uid) (u : Uid) → last_uid (us ++ u ∷ []) ≡ u
last_pushed [] u = refl
last_pushed (w ∷ []) u = refl
last_pushed (w ∷ v ∷ us) u = last_pushed (v ∷ us) u

-- an action that stands at its place has its name
pub own_named : (u : Uid) (t : Tree) (place : ℕ) (b : Branch) → IsPlace u place t → AreNamed t.node t.inc 1 t.branches →
    slice_get t.branches place ≡ Some b → actor b.path ≡ u
own_named u t place b is all at =
    let own = and_parts (u.node == t.node) (u.inc == t.inc) is.own in
    let node : u.node ≡ t.node = grind (arith, nat_tests, own.0) in
    let inc : u.inc ≡ t.inc = grind (arith, nat_tests, own.1) in
    let num : u.num ≡ 1 + place = omega (arith, is.number) in
    named_at t.node t.inc 1 place t.branches b all at ∙ (λ i. record { node = sym node i; inc = sym inc i; num = sym num i })

-- the action at a place, found by its Uid
pub place_is : (u : Uid) (t : Tree) (place : ℕ) → IsPlace u place t → branch_of u t ≡ slice_get t.branches place
place_is u t place is = rw (is.own, is.number) refl

-- what was read at a place stands there
pub read_at : (t shown : Tree) (place : ℕ) (b : Branch) → t ≡ shown → place < length shown.branches → b ≡ get_or t.branches place b →
    slice_get t.branches place ≡ Some b
read_at t shown place b same within read =
    slice_get_read t.branches (length t.branches) place b refl (subst (λ (t : Tree). place < length t.branches) (sym same) within) read

pub read_shown : (t shown : Tree) (place : ℕ) (b : Branch) → t ≡ shown → place < length shown.branches → b ≡ get_or t.branches place b →
    slice_get shown.branches place ≡ Some b
read_shown t shown place b same within read =
    ap (λ (t : Tree). slice_get t.branches place) (sym same) ∙ read_at t shown place b same within read
