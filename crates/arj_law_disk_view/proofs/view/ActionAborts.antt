-- An action that is aborted with all that is open below it, walked through at its coordinator.
use Rattle.arj_law_parts.proofs.Words
use Words.{◌≡◌, ◌≢◌, ◌⊎◌, ℕ, zero, suc, ◌&&◌, ◌||◌, List, [], ◌∷◌, ◌++◌, Bool, true, false, Option, Some, None, refl, sym, ◌∙◌, ap, subst}
use Words.{inl, inr, ⊎_elim, map, slice_get, if◌then◌else◌, not, is_some, nat_le, filter, length, flat_map, AllByRecursion, list_any}
use Words.{and_parts, uid_cases, uid_same, uid_is, uid_other, Uid, End, Kind, Path, uid_eq, is_on, uids_of, actor, Coord, Doing, doing_of}
use Words.{Disk, Intent, says, say_for, ended, all_aborted, abort_action, tolds_of, is_deferred, is_member_of, Parts, with_coord, at_uid}
use Words.{uid_number, AreAll, Branch, branch_of, is_open, is_open_branch, is_own, at_place, root_of, ends_of, is_open_below, open_below}
use Words.{latest_first, number_tells, all_both, Seen}
use Words.body
use Words.cause
use Words.ending
use Words.kind
use Words.order
use Rattle.arj_law_disk_view.proofs.Terms
use Terms.{is_below, World, after, Meaning, IsOver, State, is_gone, undecided, lists, listed_by, never, never_some, falls_to, open_parts}
use Terms.{open_done, gone_closed, or_left, or_right, test_same, up, DidIsWalked, SeesRecords, nodes_of, KnowsKinds, KnowsCoord, IsOfKind}
use Terms.{Kinds, SeesDisks, SeesCoord, SeesNotes, IsSettled}
use Terms.machine
use Terms.mail
use Terms.disk
use Rattle.arj_law_disk_view.proofs.view
use view.{AbortWalks.top_open, Ending.one_halts, Frames.node_here, Notes.all_to, Planned.has_same, TopFrames.branch_at}
use view.Ends.{IsHere, OnlyEnds, ends_none, ends_both, one_ends, one_listed, not_open_now, here_still, is_listed_end, up_to_ends}
use view.Halts.{Halted, Among, halted_gone, rest_same}
use view.HeardWalks.{is_say, say_walk}
use view.TellWalks.{EndsNoTop, SerialOver, MayTell, IsToldOf, all_told}
use Rattle.arj_law_disk_view.specs.view.Coordinating.{ActionsAreAborted}
use Rattle.arj_law_disk_view.proofs.view.Keys as keys

-- ---- a serializing action is over

-- what is found in a map stands in it
found_stands : {X : Type 0} (f : Uid × X → Bool) (u : Uid) (v : X) (m : List (Uid × X)) → at_uid u m ≡ Some v → f (u, v) ≡ true →
    list_any f m ≡ true
found_stands f u v [] is on = absurd (cc is)
found_stands {X} f u v (e ∷ es) is on = ⊎_elim
    (λ (same : u ≡ e.0). let value : ◌≡◌ {A = Option X} (Some e.1) (Some v) = sym (keys.at_here e.0 e.1 es) ∙ ap (λ a. at_uid a (e ∷ es))
    (sym same) ∙ is in let it : e.1 ≡ v = cc value in or_left (f e) (list_any f es) (ap f (λ i. (sym same i, it i)) ∙ on))
    (λ (other : u ≢ e.0). or_right (f e) (list_any f es) (found_stands f u v es (sym (keys.at_there u e.0 e.1 es other) ∙ is) on))
    (uid_cases u e.0)

module _ (x k : ℕ) (tops : Kinds) (d : Disk) (t : Parts) (C : Coord) (N : Seen) (V : World)
    (s : SeesDisks x tops V (up k d (with_coord t C) N)) (kinds : KnowsKinds tops) where
  mine : SeesCoord x k d.inc tops C V.disk
  mine = s.coords k (record { number = k; disk = d; live = Some (with_coord t C) }) (with_coord t C)
      (node_here N k (record { number = k; disk = d; live = Some (with_coord t C) })) refl

  records : SeesRecords k d.intents V.disk
  records = s.records k (record { number = k; disk = d; live = Some (with_coord t C) })
      (node_here N k (record { number = k; disk = d; live = Some (with_coord t C) }))

  notes : SeesNotes x d.intents C V
  notes = s.notes k (record { number = k; disk = d; live = Some (with_coord t C) }) (with_coord t C)
      (node_here N k (record { number = k; disk = d; live = Some (with_coord t C) })) refl

  -- who is open, or has a record, has begun its commit
  open_begun : (z : ℕ) → (disk.is_open (V.disk.stage z) ≡ true) ⊎ (is_some (V.disk.intent z) ≡ true) → V.disk.begun z ≡ true
  open_begun z (inl o) = s.whole.core.fresh.open_begun z o
  open_begun z (inr r) = ⊎_elim (s.whole.core.fresh.conf z) (s.whole.core.fresh.light z) (s.whole.core.coordinators.record_taken z r)

  -- a top that is its own root is over, where it has ended and has no record
  pub plain_over : (r : Uid) → is_gone (V.disk.stage (uid_number r)) ≡ true → V.disk.intent (uid_number r) ≡ None →
      tops.is_top (uid_number r) ≡ true → IsOver V.disk (uid_number r)
  plain_over r gone none top = (gone, λ z of. falls_to (undecided V.disk z) (λ o. still z of o))
    where
      dead : undecided V.disk (uid_number r) ≡ true → ⊥
      dead o = ⊎_elim (λ now. never now (gone_closed (V.disk.stage (uid_number r)) gone)) (λ rec. never rec (ap is_some none))
          (open_parts (disk.decided V.disk (uid_number r)) (V.disk.stage (uid_number r)) (V.disk.intent (uid_number r)) o)

      still : (z : ℕ) → V.disk.root z ≡ uid_number r → undecided V.disk z ≡ true → ⊥
      still z of o =
          let is = (s.kinds z (open_begun z (open_parts (disk.decided V.disk z) (V.disk.stage z) (V.disk.intent z) o))).0 in
          let w = kinds.named z is in
          let is_top : tops.is_top (uid_number w.0) ≡ true = ap tops.is_top w.1 ∙ is in
          let root : tops.root (uid_number w.0) ≡ uid_number r = ap tops.root w.1 ∙ ap (λ f. f z) (sym s.fixed.root) ∙ of in
          ⊎_elim (λ same. dead (ap (λ a. undecided V.disk (uid_number a)) (sym same) ∙ ap (λ n. undecided V.disk n) w.1 ∙ o))
          (λ other. never top (kinds.serial w.0 r is_top root other).0) (uid_cases w.0 r)

  -- a serializing action with no open constituent is over
  pub serial_over : (r : Uid) → r.node ≡ k → is_gone (V.disk.stage (uid_number r)) ≡ true → tops.is_serial (uid_number r) ≡ true →
      tops.is_top (uid_number r) ≡ false
      → ((w : Uid) → is_open w C.tree ≡ true → tops.is_top (uid_number w) ≡ true → tops.root (uid_number w) ≡ uid_number r → w ≢ r → ⊥)
      → ((w : Uid) (i : Intent) → at_uid w d.intents ≡ Some i → tops.is_top (uid_number w) ≡ true →
      tops.root (uid_number w) ≡ uid_number i.root) → SerialOver V.disk r (is_deferred r d.intents)
  serial_over r here gone serial no_top none rooted = record {
    serial = ap (λ f. f (uid_number r)) s.fixed.serial ∙ serial;
    over = (gone, λ z of. falls_to (undecided V.disk z) (λ o. still z of o));
    unlisted = λ n free z of. falls_to (lists V.disk z n) (λ on. listed n free z of on);
  }
    where
      -- a begun constituent is one of this coordinator's, or of an earlier incarnation
      whose : (z : ℕ) → V.disk.root z ≡ uid_number r → V.disk.begun z ≡ true → (w : Uid) × (uid_number w ≡ z) × (w.node ≡ k) × (w ≢ r)
          × (tops.root (uid_number w) ≡ uid_number r) × (is_open w C.tree ≡ false) × (tops.is_top (uid_number w) ≡ true)
      whose z of began =
          let top = (s.kinds z began).0 in
          let w = kinds.named z top in
          let is_top : tops.is_top (uid_number w.0) ≡ true = ap tops.is_top w.1 ∙ top in
          let root : tops.root (uid_number w.0) ≡ uid_number r = ap tops.root w.1 ∙ ap (λ f. f z) (sym s.fixed.root) ∙ of in
          let other : w.0 ≢ r = λ same. never (ap (λ a. tops.is_top (uid_number a)) (sym same) ∙ is_top) no_top in (
            w.0,
            w.1,
            (kinds.own w.0 r is_top root).0 ∙ here,
            other,
            root,
            falls_to (is_open w.0 C.tree) (λ o. none w.0 o is_top root other),
            is_top,
          )

      recorded : (w : Uid) → w.node ≡ k → is_open w C.tree ≡ false → (o : Option Intent) → at_uid w d.intents ≡ o →
          is_some (nodes_of o) ≡ true → disk.decided V.disk (uid_number w) ≡ true
      recorded w at closed None is on = absurd (cc on)
      recorded w at closed (Some i) is on =
          ⊎_elim (λ o. absurd (never o closed)) (λ (h : IsSettled w i C.telling V). h.done) (notes.settled w i is)

      still : (z : ℕ) → V.disk.root z ≡ uid_number r → undecided V.disk z ≡ true → ⊥
      still z of o =
          let parts = open_parts (disk.decided V.disk z) (V.disk.stage z) (V.disk.intent z) o in
          let began = open_begun z parts in
          let w = whose z of began in
          ⊎_elim
          (λ now. never now (gone_closed (V.disk.stage z)
          (ap (λ n. is_gone (V.disk.stage n)) (sym w.1) ∙ mine.closed w.0 w.2 w.5 (ap V.disk.begun w.1 ∙ began))))
          (λ rec. never (ap (λ n. disk.decided V.disk n) (sym w.1) ∙ recorded w.0 w.2 w.5 (at_uid w.0 d.intents) refl (ap is_some (sym
          (records.is w.0 w.2) ∙ ap V.disk.intent w.1) ∙ rec)) (open_done (disk.decided V.disk z) (V.disk.stage z) (V.disk.intent z) o))
          parts

      listed : (n : ℕ) → is_deferred r d.intents n ≡ false → (z : ℕ) → V.disk.root z ≡ uid_number r → lists V.disk z n ≡ true → ⊥
      listed n free z of on =
          let w = whose z of (open_begun z (inr (there (V.disk.intent z) on))) in
          by w.0 w.3 w.4 w.6 (at_uid w.0 d.intents) refl (ap (λ q. listed_by q n) (sym (records.is w.0 w.2) ∙ ap V.disk.intent w.1) ∙ on)
        where
          there : (q : Option (List ℕ)) → listed_by q n ≡ true → is_some q ≡ true
          there None h = absurd (cc h)
          there (Some ns) h = refl

          by : (w : Uid) → w ≢ r → tops.root (uid_number w) ≡ uid_number r → tops.is_top (uid_number w) ≡ true → (q : Option Intent) →
              at_uid w d.intents ≡ q → listed_by (nodes_of q) n ≡ true → ⊥
          by w other root top None is h = absurd (cc h)
          by w other root top (Some i) is h =
              let rooted_here : i.root ≡ r = number_tells i.root r (sym (rooted w i is top) ∙ root) in
              never (found_stands (is_member_of r n) w i d.intents is
              ((λ j. uid_eq (rooted_here j) r && (not (uid_eq w r) && order.has i.nodes n))
              ∙ (λ j. uid_same r j && (not (uid_other w r other j) && order.has i.nodes n)) ∙ sym (has_same n i.nodes) ∙ h)) free

-- ---- the actions that are aborted

-- an action is found in its place
pub place_of : (c : Coord) (w : Uid) (z : Branch) → branch_of w c.tree ≡ Some z → (j : ℕ) × (slice_get c.tree.branches j ≡ Some z)
place_of c w z is = own (is_own w c.tree) is
  where
    number : (n : ℕ) → at_place n c.tree.branches ≡ Some z → (j : ℕ) × (slice_get c.tree.branches j ≡ Some z)
    number zero h = absurd (cc h)
    number (suc j) h = (j, h)

    own : (b : Bool) → (if b then at_place w.num c.tree.branches else None) ≡ Some z → (j : ℕ) × (slice_get c.tree.branches j ≡ Some z)
    own true h = number w.num h
    own false h = absurd (cc h)

-- an action is among these
abbrev pub AmongUids : Uid → List Uid → Type 0
AmongUids w [] = ⊥
AmongUids w (u ∷ us) = (w ≡ u) ⊎ AmongUids w us

all_halted : (x k : ℕ) (tops : Kinds) (M : Seen) (d : Disk) (t : Parts) (us : List Uid) (c : Coord) (W : World) → AllByRecursion (λ u.
    IsHere u c) us → AllByRecursion (λ u. at_uid u d.intents ≡ None) us → AllByRecursion (λ u. W.disk.bare (uid_number u) ≡ true → ⊥) us
    → SeesDisks x tops W (up k d (with_coord t c) M) →
    SeesDisks x tops (Halted (map uid_number us) W) (up k d (with_coord t (all_aborted us c).part) M)
all_halted x k tops M d t [] c W here none whole s = s
all_halted x k tops M d t (u ∷ us) c W here none whole s =
    let h : IsHere u c = here.0 in
    all_halted x k tops M d t us (ended u ending.Abort c) (after W (machine.Halt (uid_number u))) (all_to (λ w. IsHere w c)
    (λ w. IsHere w (ended u ending.Abort c)) (here_still c u h.branch h.doing ending.Abort h.found h.at_work) us here.1) none.1 whole.1
    (one_halts c u h.branch h.doing ending.Abort h.found h.at_work x k tops W M d t none.0 whole.0 s)

all_ends : (us : List Uid) (c : Coord) → AllByRecursion (λ u. IsHere u c) us → OnlyEnds c (all_aborted us c).part
all_ends [] c here = ends_none c
all_ends (u ∷ us) c here =
    let h : IsHere u c = here.0 in
    ends_both c (ended u ending.Abort c) (all_aborted us (ended u ending.Abort c)).part
    (one_ends c u h.branch h.doing ending.Abort h.found h.at_work)
    (all_ends us (ended u ending.Abort c) (all_to (λ w. IsHere w c) (λ w. IsHere w (ended u ending.Abort c))
    (here_still c u h.branch h.doing ending.Abort h.found h.at_work) us here.1))

all_closed : (us : List Uid) (c : Coord) → AllByRecursion (λ u. IsHere u c) us → (w : Uid) → AmongUids w us →
    is_open w (all_aborted us c).part.tree ≡ false
all_closed [] c here w among = absurd among
all_closed (u ∷ us) c here w among =
    let h : IsHere u c = here.0 in
    let rest = all_to (λ w. IsHere w c) (λ w. IsHere w (ended u ending.Abort c))
    (here_still c u h.branch h.doing ending.Abort h.found h.at_work) us here.1 in
    ⊎_elim (λ same. falls_to (is_open w (all_aborted us (ended u ending.Abort c)).part.tree)
    (λ o. never ((all_ends us (ended u ending.Abort c) rest).was_open w o)
    (ap (λ a. is_open a (ended u ending.Abort c).tree) same ∙ not_open_now c u h.branch h.doing ending.Abort h.found h.at_work)))
    (λ more. all_closed us (ended u ending.Abort c) rest w more) among

-- the end of a nested one is listed
all_listed : (us : List Uid) (c : Coord) → AllByRecursion (λ u. IsHere u c) us → (w : Uid) (b : Branch) → branch_of w c.tree ≡ Some b →
    AmongUids w us → nat_le (length (uids_of b.path)) 1 ≡ false →
    is_listed_end w (ends_of (root_of b.path) (all_aborted us c).part.tree) ≡ true
all_listed [] c here w b is among long = absurd among
all_listed (u ∷ us) c here w b is among long =
    let h : IsHere u c = here.0 in
    let rest = all_to (λ w. IsHere w c) (λ w. IsHere w (ended u ending.Abort c))
    (here_still c u h.branch h.doing ending.Abort h.found h.at_work) us here.1 in
    ⊎_elim
    (λ same. let it : b ≡ h.branch =
    (let e : ◌≡◌ {A = Option Branch} (Some b) (Some h.branch) = sym is ∙ ap (λ a. branch_of a c.tree) same ∙ h.found in cc e) in
    (all_ends us (ended u ending.Abort c) rest).ends w (root_of b.path)
    (subst (λ (z : Branch). is_listed_end w (ends_of (root_of z.path) (ended u ending.Abort c).tree) ≡ true) (sym it)
    (subst (λ a. is_listed_end a (ends_of (root_of h.branch.path) (ended u ending.Abort c).tree) ≡ true) (sym same)
    (one_listed c u h.branch h.doing ending.Abort h.found h.at_work
    (ap (λ (z : Branch). nat_le (length (uids_of z.path)) 1) (sym it) ∙ long)))))
    (λ more. let one = (one_ends c u h.branch h.doing ending.Abort h.found h.at_work).kept w b is in
    subst (λ p. is_listed_end w (ends_of (root_of p) (all_aborted us (ended u ending.Abort c)).part.tree) ≡ true) one.3
    (all_listed us (ended u ending.Abort c) rest w one.0 one.1 more (ap (λ p. nat_le (length (uids_of p)) 1) one.3 ∙ long)))
    among

all_say : (us : List Uid) (c : Coord) → AreAll is_say (all_aborted us c).outs
all_say [] c = refl
all_say (u ∷ us) c = all_both is_say (says u (λ l. body.Aborted l cause.Asked) c) (all_aborted us (ended u ending.Abort c)).outs
    (by (doing_of u c)) (all_say us (ended u ending.Abort c))
  where
    by : (o : Option Doing) → AreAll is_say (say_for (λ l. body.Aborted l cause.Asked) o)
    by None = refl
    by (Some r) = refl

-- ---- lists of actions

latest_keeps : (w : Uid) (bs : List Branch) (found : List Uid) → AmongUids w found → AmongUids w (latest_first bs found)
latest_keeps w [] found among = among
latest_keeps w (b ∷ bs) found among = latest_keeps w bs (actor b.path ∷ found) (inr among)

latest_has : (f : Branch → Bool) (bs : List Branch) (found : List Uid) (j : ℕ) (b : Branch) → slice_get bs j ≡ Some b → f b ≡ true →
    AmongUids (actor b.path) (latest_first (filter f bs) found)
latest_has f [] found j b is on = absurd (cc is)
latest_has f (c ∷ bs) found zero b is on = let same : c ≡ b = cc is in by (f c) (ap f same ∙ on)
  where
    by : (g : Bool) → g ≡ true → AmongUids (actor b.path) (latest_first (if g then c ∷ filter f bs else filter f bs) found)
    by true h = latest_keeps (actor b.path) (filter f bs) (actor c.path ∷ found)
        (inl (ap (λ (z : Branch). actor z.path) (sym (let same : c ≡ b = cc is in same))))
    by false h = absurd (cc h)
latest_has f (c ∷ bs) found (suc j) b is on = by (f c) (λ more. latest_has f bs more j b is on)
  where
    by : (g : Bool) → ((more : List Uid) → AmongUids (actor b.path) (latest_first (filter f bs) more)) →
        AmongUids (actor b.path) (latest_first (if g then c ∷ filter f bs else filter f bs) found)
    by true ih = ih (actor c.path ∷ found)
    by false ih = ih found

pub latest_all : (Q : Uid → Type 0) (f : Branch → Bool) (bs : List Branch) (found : List Uid) → ((j : ℕ) (b : Branch) →
    slice_get bs j ≡ Some b → f b ≡ true → Q (actor b.path)) → AllByRecursion Q found → AllByRecursion Q (latest_first (filter f bs) found)
latest_all Q f [] found each all = all
latest_all Q f (c ∷ bs) found each all = by (f c) refl (λ more h. latest_all Q f bs more (λ j b is on. each (suc j) b is on) h)
  where
    by : (g : Bool) → f c ≡ g → ((more : List Uid) → AllByRecursion Q more → AllByRecursion Q (latest_first (filter f bs) more)) →
        AllByRecursion Q (latest_first (if g then c ∷ filter f bs else filter f bs) found)
    by true h ih = ih (actor c.path ∷ found) (each zero c refl h, all)
    by false h ih = ih found all

pub all_both_lists : (Q : Uid → Type 0) (us ws : List Uid) → AllByRecursion Q us → AllByRecursion Q ws → AllByRecursion Q (us ++ ws)
all_both_lists Q [] ws a b = b
all_both_lists Q (u ∷ us) ws a b = (a.0, all_both_lists Q us ws a.1 b)

among_both_lists : (w : Uid) (us ws : List Uid) → AmongUids w us → AmongUids w (us ++ ws)
among_both_lists w [] ws among = absurd among
among_both_lists w (u ∷ us) ws (inl same) = inl same
among_both_lists w (u ∷ us) ws (inr more) = inr (among_both_lists w us ws more)

among_numbers : (w : Uid) (us : List Uid) → AmongUids w us → Among (uid_number w) (map uid_number us)
among_numbers w [] among = absurd among
among_numbers w (u ∷ us) (inl same) = inl (ap uid_number (sym same))
among_numbers w (u ∷ us) (inr more) = inr (among_numbers w us more)

all_among : (Q : Uid → Type 0) (us : List Uid) → ((w : Uid) → AmongUids w us → Q w) → AllByRecursion Q us
all_among Q [] each = tt
all_among Q (u ∷ us) each = (each u (inl refl), all_among Q us (λ w more. each w (inr more)))

of_all : (Q : Uid → Type 0) (us : List Uid) (w : Uid) → AllByRecursion Q us → AmongUids w us → Q w
of_all Q [] w all among = absurd among
of_all Q (u ∷ us) w all (inl same) = subst Q (sym same) all.0
of_all Q (u ∷ us) w all (inr more) = of_all Q us w all.1 more

-- an action with no record that is at its end, of no commit without a record, may be told so
pub dead_told : (S : State) (t n : ℕ) → is_gone (S.stage t) ≡ true → S.intent t ≡ None → (S.bare t ≡ true → ⊥) →
    Meaning S (mail.ToldAbort t n)
dead_told S t n gone none bare = (
  gone,
  falls_to (undecided S t) (λ o. ⊎_elim (λ now. never now (gone_closed (S.stage t) gone)) (λ rec. never rec (ap is_some none))
      (open_parts (disk.decided S t) (S.stage t) (S.intent t) o)),
  ap (λ q. listed_by q n) none,
  λ on. absurd (bare on),
)

-- ---- the abort

module _ (x : ℕ) (tops : Kinds) (e k : ℕ) (d : Disk) (t : Parts) (act : Uid) (b : Branch) (M : Seen) (kinds : KnowsKinds tops)
    (knows : KnowsCoord tops d.intents t.coord) (found : branch_of act t.coord.tree ≡ Some b) (unended : b.ended ≡ None)
    (W : World) (sees : SeesDisks x tops W (up k d t M)) where
  abbrev Us : List Uid
  Us = open_below act t.coord.tree ++ act ∷ []

  abbrev Last : Coord
  Last = (all_aborted Us t.coord).part

  abbrev LastWorld : World
  LastWorld = Halted (map uid_number Us) W

  mine_first : SeesCoord x k d.inc tops t.coord W.disk
  mine_first =
      sees.coords k (record { number = k; disk = d; live = Some t }) t (node_here M k (record { number = k; disk = d; live = Some t })) refl

  records_first : SeesRecords k d.intents W.disk
  records_first =
      sees.records k (record { number = k; disk = d; live = Some t }) (node_here M k (record { number = k; disk = d; live = Some t }))

  -- one that is to be aborted
  record IsOpenHere (w : Uid) : Type 0 where
    here : IsHere w t.coord
    open_yet : (let z = here.branch in z.ended) ≡ None
    unrecorded : at_uid w d.intents ≡ None
    whose : (w ≡ act) ⊎ (is_below act here.branch ≡ true)

  is_here : (w : Uid) (z : Branch) → branch_of w t.coord.tree ≡ Some z → z.ended ≡ None → (w ≡ act) ⊎ (is_below act z ≡ true) → IsOpenHere w
  is_here w z is open_yet whose =
      let q = knows.at_work w z is in
      record {
        here = record { branch = z; found = is; doing = q.0; at_work = q.1 };
        open_yet = open_yet;
        unrecorded = knows.unrecorded w (ap is_open_branch is ∙ ap (λ (o : Option End). not (is_some o)) open_yet);
        whose = whose;
      }

  not_ended : (o : Option End) → not (is_some o) ≡ true → o ≡ None
  not_ended None h = refl
  not_ended (Some how) h = absurd (cc h)

  -- an action at a place
  placed : (j : ℕ) (z : Branch) → slice_get t.coord.tree.branches j ≡ Some z → is_open_below act z ≡ true → IsOpenHere (actor z.path)
  placed j z is on =
      let u : Uid = record { node = t.coord.tree.node; inc = t.coord.tree.inc; num = suc j } in
      let there : branch_of u t.coord.tree ≡ Some z = ap (λ c. if c then at_place (suc j) t.coord.tree.branches else None)
      ((λ i. test_same t.coord.tree.node i && test_same t.coord.tree.inc i)) ∙ is in
      let parts = and_parts (is_below act z) (not (is_some z.ended)) on in
      subst IsOpenHere (sym (knows.path u z there)) (is_here u z there (not_ended z.ended parts.1) (inr parts.0))

  all_here : AllByRecursion IsOpenHere Us
  all_here = all_both_lists IsOpenHere (open_below act t.coord.tree) (act ∷ [])
      (latest_all IsOpenHere (is_open_below act) t.coord.tree.branches [] placed tt) (is_here act b found unended (inl refl), tt)

  heres : AllByRecursion (λ u. IsHere u t.coord) Us
  heres = all_to IsOpenHere (λ u. IsHere u t.coord) (λ u h. h.here) Us all_here

  -- no commit without a record has ended it
  not_bare : (w : Uid) → IsOpenHere w → W.disk.bare (uid_number w) ≡ true → ⊥
  not_bare w h bare = let n = mine_first.bare w h.here.branch h.here.doing h.here.found h.here.at_work bare in
      never_some n.committed h.open_yet

  halted_all : SeesDisks x tops LastWorld (up k d (with_coord t Last) M)
  halted_all = all_halted x k tops M d t Us t.coord W heres (all_to IsOpenHere (λ u. at_uid u d.intents ≡ None) (λ u h. h.unrecorded) Us
      all_here) (all_to IsOpenHere (λ u. W.disk.bare (uid_number u) ≡ true → ⊥) not_bare Us all_here) sees

  rest : LastWorld.disk ≡ record W.disk { stage = LastWorld.disk.stage }
  rest = rest_same W (map uid_number Us)

  gone_now : (w : Uid) → AmongUids w Us → is_gone (LastWorld.disk.stage (uid_number w)) ≡ true
  gone_now w among = halted_gone W (map uid_number Us) (uid_number w) (among_numbers w Us among)

  -- no constituent is open any more
  none_open : (w : Uid) → is_open w Last.tree ≡ true → tops.is_top (uid_number w) ≡ true → tops.root (uid_number w) ≡ uid_number act →
      w ≢ act → ⊥
  none_open w o top root other = by (branch_of w t.coord.tree) refl ((all_ends Us t.coord heres).was_open w o)
    where
      by : (g : Option Branch) → branch_of w t.coord.tree ≡ g → is_open_branch g ≡ true → ⊥
      by None is h = absurd (cc h)
      by (Some z) is h =
          let of : root_of z.path ≡ act = number_tells (root_of z.path) act (sym (knows.root w z is top) ∙ root) in
          let on : is_on (uids_of z.path) act ≡ true = ap (λ a. is_on (uids_of z.path) a) (sym of) ∙ knows.headed w z is in
          let last : actor z.path ≡ w = knows.path w z is in
          let apart : uid_eq (actor z.path) act ≡ false = uid_other (actor z.path) act (λ same. other (sym last ∙ same)) in
          let below : is_open_below act z ≡ true = (λ i. (on i && not (apart i)) && h i) in
          never o (all_closed Us t.coord heres w (among_both_lists w (open_below act t.coord.tree) (act ∷ [])
          (subst (λ a. AmongUids a (open_below act t.coord.tree)) last (there z below (place_of t.coord w z is)))))
        where
          there : (z : Branch) → is_open_below act z ≡ true → (j : ℕ) × (slice_get t.coord.tree.branches j ≡ Some z) →
              AmongUids (actor z.path) (open_below act t.coord.tree)
          there z below at = latest_has (is_open_below act) t.coord.tree.branches [] at.0 z at.1 below

  -- an open top may be told of as aborted
  plain : (w : Uid) → AmongUids w Us → IsOpenHere w → tops.is_top (uid_number w) ≡ true → (n : ℕ) →
      Meaning LastWorld.disk (mail.ToldAbort (uid_number w) n)
  plain w among h top n = dead_told LastWorld.disk (uid_number w) n (gone_now w among)
      (ap (λ (S : State). S.intent (uid_number w)) rest
      ∙ records_first.is w ((branch_at w t.coord h.here.branch h.here.found).0 ∙ mine_first.node) ∙ ap nodes_of h.unrecorded)
      (λ bare. never (sees.whole.core.bare.gone (uid_number w) (sym (ap (λ (S : State). S.bare (uid_number w)) rest) ∙ bare))
      (top_open x tops W.disk (uid_number w) h.here.branch.kind h.here.doing.now top
      (mine_first.working w h.here.branch h.here.doing h.here.found h.open_yet h.here.at_work)))

  -- what may be told of each
  may_tell : (w : Uid) → AmongUids w Us → (h : IsOpenHere w) → (kd : Kind) (p : Path) → (let z = h.here.branch in z.kind) ≡ kd →
      (let z = h.here.branch in z.path) ≡ p → IsOfKind tops w kd p → MayTell tops d Last LastWorld.disk w kd p
  may_tell w among h kind.Nested p kd_is p_is of =
      let r = up_to_ends w (ends_of (root_of p) Last.tree) (subst (λ z. is_listed_end w (ends_of (root_of z) Last.tree) ≡ true) p_is
      (all_listed Us t.coord heres w h.here.branch h.here.found among (ap (λ z. nat_le (length (uids_of z)) 1) p_is ∙ of.2))) in
      subst (λ o. EndsNoTop tops o) (sym r.1) (of.0, of.1)
  may_tell w among h kind.Serial p kd_is p_is of = subst (λ a. SerialOver LastWorld.disk a (is_deferred a d.intents)) (sym same)
      (serial_over x k tops d t Last M LastWorld halted_all kinds act ((branch_at act t.coord b found).0 ∙ mine_first.node)
      (subst (λ a. is_gone (LastWorld.disk.stage (uid_number a)) ≡ true) same (gone_now w among))
      (ap (λ a. tops.is_serial (uid_number a)) (sym same) ∙ of.1) (ap (λ a. tops.is_top (uid_number a)) (sym same) ∙ of.0) none_open
      knows.rooted)
    where
      same : w ≡ act
      same = ⊎_elim (λ s. s) (λ below. uid_is w act (only (uid_eq w act) (ap (λ us. is_on us act) (sym (ap (λ z. uids_of z) p_is ∙ of.2))
          ∙ (and_parts (is_on (uids_of h.here.branch.path) act) (not (uid_eq (actor h.here.branch.path) act)) below).0))) h.whose
        where
          only : (c : Bool) → (c || false) ≡ true → c ≡ true
          only true e = refl
          only false e = absurd (cc e)
  may_tell w among h kind.Top p kd_is p_is of = (of.0, plain w among h of.0)
  may_tell w among h kind.Independent p kd_is p_is of = (of.0, plain w among h of.0)
  may_tell w among h kind.Constituent p kd_is p_is of = (of.0, plain w among h of.0)

  told_of : (w : Uid) → AmongUids w Us → IsToldOf tops d Last LastWorld.disk w
  told_of w among =
      let h : IsOpenHere w = of_all IsOpenHere Us w all_here among in
      let z = (all_ends Us t.coord heres).kept w h.here.branch h.here.found in
      record {
        branch = z.0;
        found = z.1;
        may = subst (λ kd. MayTell tops d Last LastWorld.disk w kd (let y = z.0 in y.path)) (sym z.2)
            (subst (λ p. MayTell tops d Last LastWorld.disk w h.here.branch.kind p) (sym z.3)
            (may_tell w among h h.here.branch.kind h.here.branch.path refl refl (knows.kind w h.here.branch h.here.found)));
      }

  pub abort_walks : DidIsWalked x tops e k d t (abort_action act d.intents t.coord) M
  abort_walks = say_walk x k tops e (with_coord t Last) (with_coord t Last) (all_aborted Us t.coord).outs
      (flat_map (tolds_of d.intents Last) Us) d LastWorld (all_say Us t.coord)
      (λ N s. all_told x k tops e d t Last LastWorld.disk Us (all_among (IsToldOf tops d Last LastWorld.disk) Us told_of) N LastWorld refl
      s) M halted_all

pub actions_are_aborted : ActionsAreAborted
actions_are_aborted x tops e k d t act b M kinds knows found unended W sees =
    abort_walks x tops e k d t act b M kinds knows found unended W sees
