-- What each action waits for is its own, as actions begin and change.
use Rattle.std.proofs.Common.{◌≡◌, ℕ, ◌+◌, ◌==◌, zero, suc, List, [], ◌∷◌, ◌++◌, Bool, true, false, length, refl, ap, sym, ◌∙◌, subst}
use Rattle.std.proofs.Common.{Option, Some, None, arith}
use Rattle.std.proofs.lemmas.Bool.{and_parts}
use Rattle.std.proofs.lemmas.Bool.Decides.{nat_tests}
use Rattle.std.specs.Prelude.{slice_get, slice_set, nat_le, IfSome}
use Rattle.arj_coord.specs.Fits.{NowFits, AllFit}
use Rattle.arj_coord.specs.Waiting.{changed_by, changed_at, idle_doing}
use Rattle.arj_protocol.specs.Coord.{Coord, Doing, Now, Idle, doing_of}
use Rattle.arj_protocol.specs.Tree.{Tree, Branch, at_place, begun, branch_of, is_own, ended_at, ended_branch, listed_end, doomed_at}
use Rattle.arj_protocol.specs.Tree.{doomed_branch}
use Rattle.arj_protocol.specs.Words.{Uid, End, Kind, uids_of}
use Rattle.arj_tree.specs.Stands.{object_used, used_by}

-- what an action at a place waits for
pub fits_at : (node inc n k : ℕ) (ds : List Doing) (d : Doing) → AllFit node inc n ds → slice_get ds k ≡ Some d →
    NowFits (record { node = node; inc = inc; num = n + k }) d.req d.now
fits_at node inc n k [] d all at = absurd (cc at)
fits_at node inc n zero (c ∷ ds) d all at =
    let same : c ≡ d = cc at in
    let here : n ≡ n + zero = omega arith in
    subst (λ (x : Doing). NowFits (record {
      node = node;
      inc = inc;
      num =
          n + zero;
    }) x.req x.now) same (subst (λ m. NowFits (record { node = node; inc = inc; num = m }) c.req c.now) here all.0)
fits_at node inc n (suc k) (c ∷ ds) d all at =
    let place : (n + 1) + k ≡ n + suc k = omega arith in
    subst (λ m. NowFits (record { node = node; inc = inc; num = m }) d.req d.now) place (fits_at node inc (n + 1) k ds d all.1 at)

-- one of them changes
pub fits_changed : (node inc n k : ℕ) (ds : List Doing) (d : Doing) → AllFit node inc n ds →
    NowFits (record { node = node; inc = inc; num = n + k }) d.req d.now → AllFit node inc n (slice_set ds k d)
fits_changed node inc n k [] d all fits = tt
fits_changed node inc n zero (c ∷ ds) d all fits =
    let here : n + zero ≡ n = omega arith in
    (subst (λ m. NowFits (record { node = node; inc = inc; num = m }) d.req d.now) here fits, all.1)
fits_changed node inc n (suc k) (c ∷ ds) d all fits =
    let place : n + suc k ≡ (n + 1) + k = omega arith in (
      all.0,
      fits_changed node inc (n + 1) k ds d all.1 (subst (λ m. NowFits (record {
        node = node;
        inc = inc;
        num =
            m;
      }) d.req d.now) place fits),
    )

-- an action begins, and waits for nothing
pub fits_begun : (node inc n : ℕ) (ds : List Doing) (d : Doing) → d.now ≡ Idle → AllFit node inc n ds → AllFit node inc n (ds ++ d ∷ [])
fits_begun node inc n [] d idle all = (subst (λ m. NowFits (record { node = node; inc = inc; num = n }) d.req m) (sym idle) tt, tt)
fits_begun node inc n (c ∷ ds) d idle all = (all.0, fits_begun node inc (n + 1) ds d idle all.1)

-- the action of a number changes, so that its own still fits
pub fits_by : (node inc number : ℕ) (f : Doing → Doing) (ds : List Doing) → AllFit node inc 1 ds
    → ((d : Doing) → NowFits (record { node = node; inc = inc; num = number }) d.req d.now →
    NowFits (record { node = node; inc = inc; num = number }) (f d).req (f d).now)
    → AllFit node inc 1 (changed_at number f ds)
fits_by node inc zero f ds all keeps = all
fits_by node inc (suc k) f ds all keeps = by (slice_get ds k) refl
  where
    place : 1 + k ≡ suc k
    place = omega arith

    by : (o : Option Doing) → slice_get ds k ≡ o → AllFit node inc 1 (changed_by f (suc k) ds o)
    by None at = all
    by (Some d) at =
        let before : NowFits (record { node = node; inc = inc; num = suc k }) d.req d.now =
        subst (λ m. NowFits (record { node = node; inc = inc; num = m }) d.req d.now) place (fits_at node inc 1 k ds d all at) in
        fits_changed node inc 1 k ds (f d) all (subst (λ m. NowFits (record {
          node = node;
          inc = inc;
          num =
              m;
        }) (f d).req (f d).now) (sym place) (keeps d before))

-- a Uid of this node in this incarnation
pub own_is : (u : Uid) (t : Tree) → is_own u t ≡ true → u ≡ record { node = t.node; inc = t.inc; num = u.num }
own_is u t own =
    let both = and_parts (u.node == t.node) (u.inc == t.inc) own in
    let node : u.node ≡ t.node = grind (arith, nat_tests, both.0) in
    let inc : u.inc ≡ t.inc = grind (arith, nat_tests, both.1) in
    λ i. record { node = node i; inc = inc i; num = u.num }

-- what an action waits for is its own
pub fits_of : (u : Uid) (c : Coord) → AllFit c.tree.node c.tree.inc 1 c.doings → IfSome (doing_of u c) (λ d. NowFits u d.req d.now)
fits_of u c all = by (is_own u c.tree) refl
  where
    here : (num : ℕ) → u ≡ record { node = c.tree.node; inc = c.tree.inc; num = num } → (o : Option Doing) → at_place num c.doings ≡ o →
        IfSome o (λ d. NowFits u d.req d.now)
    here num is None at = tt
    here zero is (Some d) at = absurd (cc at)
    here (suc k) is (Some d) at =
        let place : 1 + k ≡ suc k = omega arith in
        subst (λ (w : Uid). NowFits w d.req d.now) (sym is) (subst (λ m. NowFits (record {
          node = c.tree.node;
          inc = c.tree.inc;
          num =
              m;
        }) d.req d.now) place (fits_at c.tree.node c.tree.inc 1 k c.doings d all at))

    by : (b : Bool) → is_own u c.tree ≡ b → IfSome (doing_of u c) (λ d. NowFits u d.req d.now)
    by true own = rw own (here u.num (own_is u c.tree own) (at_place u.num c.doings) refl)
    by false own = rw own tt

-- a tree stays at its node in its incarnation
pub fits_in : (t s : Tree) (ds : List Doing) → s.node ≡ t.node → s.inc ≡ t.inc → AllFit t.node t.inc 1 ds → AllFit s.node s.inc 1 ds
fits_in t s ds node inc all = subst (λ m. AllFit m s.inc 1 ds) (sym node) (subst (λ m. AllFit t.node m 1 ds) (sym inc) all)

pub ended_stays : (u : Uid) (e : End) (t : Tree) → ((ended_at u e t).node ≡ t.node) × ((ended_at u e t).inc ≡ t.inc)
ended_stays u e t = by (branch_of u t)
  where
    listed : (b : Branch) (short : Bool) → nat_le (length (uids_of b.path)) 1 ≡ short → (s : Tree) →
        ((listed_end u e b.path s).node ≡ s.node) × ((listed_end u e b.path s).inc ≡ s.inc)
    listed b true short s = rw short (refl, refl)
    listed b false short s = rw short (refl, refl)

    by : (o : Option Branch) → ((ended_branch u e t o).node ≡ t.node) × ((ended_branch u e t o).inc ≡ t.inc)
    by None = (refl, refl)
    by (Some b) = listed b (nat_le (length (uids_of b.path)) 1) refl _

pub doomed_stays : (u : Uid) (t : Tree) → ((doomed_at u t).node ≡ t.node) × ((doomed_at u t).inc ≡ t.inc)
doomed_stays u t = by (branch_of u t)
  where
    by : (o : Option Branch) → ((doomed_branch u t o).node ≡ t.node) × ((doomed_branch u t o).inc ≡ t.inc)
    by None = (refl, refl)
    by (Some b) = (refl, refl)

pub used_stays : (u : Uid) (x : ℕ) (t : Tree) → ((object_used u x t).node ≡ t.node) × ((object_used u x t).inc ≡ t.inc)
used_stays u x t = by (branch_of u t)
  where
    by : (o : Option Branch) → ((used_by x t o).node ≡ t.node) × ((used_by x t o).inc ≡ t.inc)
    by None = (refl, refl)
    by (Some b) = (refl, refl)

-- so does what is at work in a tree in which an action began, ended, was doomed or uses an object
pub fits_begins : (k : Kind) (p : Option Branch) (t s : Tree) (ds : List Doing) → s ≡ begun k p t → AllFit t.node t.inc 1 ds →
    AllFit s.node s.inc 1 ds
fits_begins k p t s ds is all = fits_in t s ds (ap (λ (x : Tree). x.node) is) (ap (λ (x : Tree). x.inc) is) all

pub fits_more : (k : Kind) (p : Option Branch) (t s : Tree) (ds es : List Doing) (d : Doing) → d.now ≡ Idle → s ≡ begun k p t →
    es ≡ ds ++ d ∷ [] → AllFit t.node t.inc 1 ds → AllFit s.node s.inc 1 es
fits_more k p t s ds es d idle is es_are all =
    subst (λ es. AllFit s.node s.inc 1 es) (sym es_are) (fits_begun s.node s.inc 1 ds d idle (fits_begins k p t s ds is all))

pub fits_ends : (u : Uid) (e : End) (t s : Tree) (ds : List Doing) → s ≡ ended_at u e t → AllFit t.node t.inc 1 ds →
    AllFit s.node s.inc 1 ds
fits_ends u e t s ds is all =
    fits_in t s ds (ap (λ (x : Tree). x.node) is ∙ (ended_stays u e t).0) (ap (λ (x : Tree). x.inc) is ∙ (ended_stays u e t).1) all

pub fits_dooms : (u : Uid) (t s : Tree) (ds : List Doing) → s ≡ doomed_at u t → AllFit t.node t.inc 1 ds → AllFit s.node s.inc 1 ds
fits_dooms u t s ds is all =
    fits_in t s ds (ap (λ (x : Tree). x.node) is ∙ (doomed_stays u t).0) (ap (λ (x : Tree). x.inc) is ∙ (doomed_stays u t).1) all

pub fits_uses : (u : Uid) (x : ℕ) (t s : Tree) (ds : List Doing) → s ≡ object_used u x t → AllFit t.node t.inc 1 ds →
    AllFit s.node s.inc 1 ds
fits_uses u x t s ds is all =
    fits_in t s ds (ap (λ (x : Tree). x.node) is ∙ (used_stays u x t).0) (ap (λ (x : Tree). x.inc) is ∙ (used_stays u x t).1) all

-- an action that waits for nothing fits, and so does one whose request is its own
pub fits_taken : (node inc number : ℕ) (ds es : List Doing) → es ≡ changed_at number idle_doing ds → AllFit node inc 1 ds →
    AllFit node inc 1 es
fits_taken node inc number ds es are all = subst (AllFit node inc 1) (sym are) (fits_by node inc number idle_doing ds all (λ d fits. tt))

pub fits_part : (node inc number : ℕ) (nodes : List ℕ) (ds es : List Doing) →
    es ≡ changed_at number (λ (d : Doing). record d { took = nodes }) ds → AllFit node inc 1 ds → AllFit node inc 1 es
fits_part node inc number nodes ds es are all =
    subst (AllFit node inc 1) (sym are) (fits_by node inc number (λ (d : Doing). record d { took = nodes }) ds all (λ d fits. fits))

pub fits_waits : (u : Uid) (req : ℕ) (now : Now) (t : Tree) (ds es : List Doing) → is_own u t ≡ true → NowFits u req now →
    es ≡ changed_at u.num (λ (d : Doing). record d { req = req; now = now }) ds → AllFit t.node t.inc 1 ds → AllFit t.node t.inc 1 es
fits_waits u req now t ds es own fits are all =
    let mine : NowFits (record { node = t.node; inc = t.inc; num = u.num }) req now =
    subst (λ (w : Uid). NowFits w req now) (own_is u t own) fits in
    subst (AllFit t.node t.inc 1) (sym are) (fits_by t.node t.inc u.num (λ (d : Doing). record d {
      req = req;
      now =
          now;
    }) ds all (λ d old. mine))
