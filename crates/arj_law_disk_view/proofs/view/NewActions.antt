-- An action that begins, walked through at its coordinator.
use Rattle.arj_law_parts.proofs.Words
use Words.{◌≡◌, ◌⊎◌, ◌<◌, ◌≤◌, ℕ, zero, suc, ◌+◌, ◌==◌, List, [], ◌∷◌, ◌++◌, Bool, true, false, Option, Some, None, refl, sym, ◌∙◌, ap}
use Words.{subst, inl, inr, ⊎_elim, slice_get, length, lt_irrefl, lt_trans, eqb-true, arith, if◌then◌else◌, and_parts, Uid, Label, Kind}
use Words.{Path, begin_action, began_line, Coord, Doing, Idle, doing_of, Disk, Parts, with_coord, uid_number, Branch, branch_of, begun}
use Words.{is_open, is_open_branch, is_own, at_place, next_uid, path_below, Labelled, numbered, Seen}
use Words.kind
use Words.order
use Rattle.arj_law_disk_view.proofs.Terms
use Terms.{World, State, is_gone, never, up, given, KnowsCoord, IsOfKind, Kinds, IsFuture, IsNamedCommit, SeesDisks, SeesCoord, SeesNotes}
use Terms.{KnowsNow, Works}
use Terms.disk
use Rattle.arj_law_disk_view.proofs.view
use view.{Frames.says_seen, Frames.node_here, HeardWalks.coord_seen}
use view.TopFrames.{branch_at, placed_below}
use Rattle.arj_law_disk_view.specs.view.Coordinating.{ActionsBegin}
use Rattle.arj_protocol.specs.Coord.{with_label}

-- ---- one more at the end of a list

shift : (n : ℕ) → suc (n + 1) ≡ suc n + 1
shift n = grind arith

snoc_long : {A : Type 0} (xs : List A) (a : A) → length (xs ++ a ∷ []) ≡ length xs + 1
snoc_long [] a = refl
snoc_long (x ∷ xs) a = ap suc (snoc_long xs a) ∙ shift (length xs)

-- what is found at a place is what was there, or the last one
snoc_cases : {A : Type 0} (xs : List A) (a y : A) (j : ℕ) → at_place j (xs ++ a ∷ []) ≡ Some y →
    (at_place j xs ≡ Some y) ⊎ ((j ≡ length xs + 1) × (a ≡ y))
snoc_cases xs a y zero is = absurd (cc is)
snoc_cases {A} xs a y (suc j) is = go xs j is
  where
    go : (xs : List A) (j : ℕ) → slice_get (xs ++ a ∷ []) j ≡ Some y → (slice_get xs j ≡ Some y) ⊎ ((suc j ≡ length xs + 1) × (a ≡ y))
    go [] zero is = inr (refl, (let same : a ≡ y = cc is in same))
    go [] (suc j) is = absurd (cc is)
    go (x ∷ xs) zero is = inl is
    go (x ∷ xs) (suc j) is = ⊎_elim (λ h. inl h) (λ h. inr (ap suc h.0 ∙ shift (length xs), h.1)) (go xs j is)

snoc_old : {A : Type 0} (xs : List A) (a y : A) (j : ℕ) → at_place j xs ≡ Some y → at_place j (xs ++ a ∷ []) ≡ Some y
snoc_old xs a y zero is = absurd (cc is)
snoc_old {A} xs a y (suc j) is = go xs j is
  where
    go : (xs : List A) (j : ℕ) → slice_get xs j ≡ Some y → slice_get (xs ++ a ∷ []) j ≡ Some y
    go [] j is = absurd (cc is)
    go (x ∷ xs) zero is = is
    go (x ∷ xs) (suc j) is = go xs j is

above_last : (n j : ℕ) → j ≤ n → j ≡ n + 1 → ⊥
above_last n j low is = lt_irrefl n (subst (λ m. m ≤ n) (is ∙ one n) low)
  where
    one : (n : ℕ) → n + 1 ≡ suc n
    one n = grind arith

-- ---- the coordinator

module _ (x k : ℕ) (tops : Kinds) (W : World) (M : Seen) (d : Disk) (t : Parts) (l : Label) (how : Kind) (above : Option Branch)
    (knows : KnowsCoord tops d.intents t.coord)
    (fits : IsOfKind tops (next_uid t.coord.tree) how (path_below how above (next_uid t.coord.tree)))
    (sees : SeesDisks x tops W (up k d t M)) where
  abbrev new : Branch
  new = record { path = path_below how above (next_uid t.coord.tree); kind = how; ended = None; doomed = false }

  abbrev fresh : Doing
  fresh = record { label = l; req = 0; now = Idle; took = [] }

  abbrev C : Coord
  C = with_label l (next_uid t.coord.tree).num (record t.coord
      { tree = begun how above t.coord.tree; doings = t.coord.doings ++ record { label = l; req = 0; now = Idle; took = [] } ∷ [] })

  mine : SeesCoord x k d.inc tops t.coord W.disk
  mine =
      sees.coords k (record { number = k; disk = d; live = Some t }) t (node_here M k (record { number = k; disk = d; live = Some t })) refl

  -- an action of the coordinator, and whether it is the new one
  branch_cases : (w : Uid) (z : Branch) → branch_of w C.tree ≡ Some z →
      (is_own w t.coord.tree ≡ true) × ((branch_of w t.coord.tree ≡ Some z) ⊎ ((w.num ≡ length t.coord.tree.branches + 1) × (new ≡ z)))
  branch_cases w z is = by (is_own w t.coord.tree) refl is
    where
      by : (b : Bool) → is_own w t.coord.tree ≡ b → (if b then at_place w.num (t.coord.tree.branches ++ new ∷ []) else None) ≡ Some z →
          (is_own w t.coord.tree ≡ true) × ((branch_of w t.coord.tree ≡ Some z) ⊎ ((w.num ≡ length t.coord.tree.branches + 1) × (new ≡ z)))
      by true e h = (
        e,
        ⊎_elim (λ old. inl (ap (λ b. if b then at_place w.num t.coord.tree.branches else None) e ∙ old)) (λ last. inr last)
            (snoc_cases t.coord.tree.branches new z w.num h),
      )
      by false e h = absurd (cc h)

  branch_stays : (w : Uid) (z : Branch) → branch_of w t.coord.tree ≡ Some z → branch_of w C.tree ≡ Some z
  branch_stays w z is = by (is_own w t.coord.tree) refl is
    where
      by : (b : Bool) → is_own w t.coord.tree ≡ b → (if b then at_place w.num t.coord.tree.branches else None) ≡ Some z →
          (if is_own w t.coord.tree then at_place w.num (t.coord.tree.branches ++ new ∷ []) else None) ≡ Some z
      by true e h =
          ap (λ b. if b then at_place w.num (t.coord.tree.branches ++ new ∷ []) else None) e ∙ snoc_old t.coord.tree.branches new z w.num h
      by false e h = absurd (cc h)

  doing_cases : (w : Uid) (q : Doing) → doing_of w C ≡ Some q →
      (doing_of w t.coord ≡ Some q) ⊎ ((w.num ≡ length t.coord.doings + 1) × (fresh ≡ q))
  doing_cases w q is = by (is_own w t.coord.tree) refl is
    where
      by : (b : Bool) → is_own w t.coord.tree ≡ b → (if b then at_place w.num (t.coord.doings ++ fresh ∷ []) else None) ≡ Some q →
          (doing_of w t.coord ≡ Some q) ⊎ ((w.num ≡ length t.coord.doings + 1) × (fresh ≡ q))
      by true e h = ⊎_elim (λ old. inl (ap (λ b. if b then at_place w.num t.coord.doings else None) e ∙ old)) (λ last. inr last)
          (snoc_cases t.coord.doings fresh q w.num h)
      by false e h = absurd (cc h)

  -- what is there stands no further than the last one
  branch_low : (w : Uid) (z : Branch) → branch_of w t.coord.tree ≡ Some z → w.num ≤ length t.coord.tree.branches
  branch_low w z is = (branch_at w t.coord z is).2

  doing_low : (w : Uid) (q : Doing) → doing_of w t.coord ≡ Some q → w.num ≤ length t.coord.doings
  doing_low w q is = by (is_own w t.coord.tree) is
    where
      by : (b : Bool) → (if b then at_place w.num t.coord.doings else None) ≡ Some q → w.num ≤ length t.coord.doings
      by true h = placed_below w.num t.coord.doings q h
      by false h = absurd (cc h)

  -- the new one is idle
  works_new : (S : State) (n : ℕ) (kd : Kind) (p : Path) (u : Uid) → S.stage (uid_number u) ≡ disk.Idle → IsOfKind tops u kd p →
      Works x tops S (uid_number u) kd Idle
  works_new S n kind.Nested p u idle of = of.0
  works_new S n kind.Serial p u idle of = (of.0, idle)
  works_new S n kind.Top p u idle of = (of.0, idle)
  works_new S n kind.Independent p u idle of = (of.0, idle)
  works_new S n kind.Constituent p u idle of = (of.0, idle)

  same_open : (w : Uid) → is_open w C.tree ≡ false → is_open w t.coord.tree ≡ false
  same_open w closed = by (branch_of w t.coord.tree) refl
    where
      by : (o : Option Branch) → branch_of w t.coord.tree ≡ o → is_open_branch o ≡ false
      by None is = refl
      by (Some z) is = ap is_open_branch (sym (branch_stays w z is)) ∙ closed

  still_open : (w : Uid) → is_open w t.coord.tree ≡ true → is_open w C.tree ≡ true
  still_open w opened = by (branch_of w t.coord.tree) refl opened
    where
      by : (o : Option Branch) → branch_of w t.coord.tree ≡ o → is_open_branch o ≡ true → is_open w C.tree ≡ true
      by None is h = absurd (cc h)
      by (Some z) is h = ap is_open_branch (branch_stays w z is) ∙ h

  new_uid : (w : Uid) → is_own w t.coord.tree ≡ true → w.num ≡ length t.coord.tree.branches + 1 → w ≡ next_uid t.coord.tree
  new_uid w own is = let p = and_parts (w.node == t.coord.tree.node) (w.inc == t.coord.tree.inc) own in
      λ i. record { node = eqb-true w.node t.coord.tree.node p.0 i; inc = eqb-true w.inc t.coord.tree.inc p.1 i; num = is i }

  coord_new : SeesCoord x k d.inc tops C W.disk
  coord_new = record {
    node = mine.node;
    present = mine.present;
    working = λ w z q there unended does. working w z q (branch_cases w z there) (doing_cases w q does) unended;
    closed = λ w at ended began. mine.closed w at (same_open w ended) began;
    future = λ w at later. mine.future w at (earlier w later);
    bare = λ w z q there does is. bare w z q (branch_cases w z there) (doing_cases w q does) is;
  }
    where
      longer : (n : ℕ) → n < n + 1
      longer n = grind arith

      earlier : (w : Uid) → IsFuture C w → IsFuture t.coord w
      earlier w (inl p) =
          inl (p.0, lt_trans (longer (length t.coord.tree.branches)) (subst (λ n. n < w.num) (snoc_long t.coord.tree.branches new) p.1))
      earlier w (inr p) = inr p

      bare : (w : Uid) (z : Branch) (q : Doing) → (is_own w t.coord.tree ≡ true)
          × ((branch_of w t.coord.tree ≡ Some z) ⊎ ((w.num ≡ length t.coord.tree.branches + 1) × (new ≡ z))) →
          (doing_of w t.coord ≡ Some q) ⊎ ((w.num ≡ length t.coord.doings + 1) × (fresh ≡ q)) → W.disk.bare (uid_number w) ≡ true
          → IsNamedCommit z q
      bare w z q (own, inl old) (inl at) is = mine.bare w z q old at is
      bare w z q (own, inl old) (inr last) is =
          absurd (above_last (length t.coord.tree.branches) w.num (branch_low w z old) (last.0 ∙ ap (λ n. n + 1) knows.as_long))
      bare w z q (own, inr last) at is =
          let idle : W.disk.stage (uid_number (next_uid t.coord.tree)) ≡ disk.Idle = mine.future (next_uid t.coord.tree) mine.node
          (inl (refl, longer (length t.coord.tree.branches))) in
          absurd (never (sees.whole.core.bare.gone (uid_number w) is)
          (ap (λ a. is_gone (W.disk.stage (uid_number a))) (new_uid w own last.0) ∙ ap is_gone idle))

      working : (w : Uid) (z : Branch) (q : Doing) → (is_own w t.coord.tree ≡ true)
          × ((branch_of w t.coord.tree ≡ Some z) ⊎ ((w.num ≡ length t.coord.tree.branches + 1) × (new ≡ z))) →
          (doing_of w t.coord ≡ Some q) ⊎ ((w.num ≡ length t.coord.doings + 1) × (fresh ≡ q)) → z.ended ≡ None
          → Works x tops W.disk (uid_number w) z.kind q.now
      working w z q (own, inl old) (inl at) unended = mine.working w z q old unended at
      working w z q (own, inl old) (inr last) unended =
          absurd (above_last (length t.coord.tree.branches) w.num (branch_low w z old) (last.0 ∙ ap (λ n. n + 1) knows.as_long))
      working w z q (own, inr last) (inl at) unended =
          absurd (above_last (length t.coord.doings) w.num (doing_low w q at) (last.0 ∙ ap (λ n. n + 1) (sym knows.as_long)))
      working w z q (own, inr last) (inr at) unended =
          let same : w ≡ next_uid t.coord.tree = new_uid w own last.0 in
          let idle : W.disk.stage (uid_number (next_uid t.coord.tree)) ≡ disk.Idle = mine.future (next_uid t.coord.tree) mine.node
          (inl (refl, longer (length t.coord.tree.branches))) in
          subst (λ (r : Doing). Works x tops W.disk (uid_number w) z.kind r.now) at.1 (subst (λ (y : Branch).
          Works x tops W.disk (uid_number w) y.kind Idle) last.1 (subst (λ a. Works x tops W.disk (uid_number a) how Idle) (sym same)
          (works_new W.disk 0 how (path_below how above (next_uid t.coord.tree)) (next_uid t.coord.tree) idle fits)))

  noted_new : SeesNotes x d.intents t.coord W → SeesNotes x d.intents C W
  noted_new n = record {
    settled = λ w i there. ⊎_elim (λ o. inl (still_open w o)) (λ s. inr s) (n.settled w i there);
    taken = λ w q m does on. ⊎_elim (λ old. n.taken w q m old on)
        (λ last. absurd (nobody m (ap (λ (r : Doing). order.has r.took m) last.1 ∙ on))) (doing_cases w q does);
    roots = n.roots;
    plans =
        λ w q does. ⊎_elim (λ old. n.plans w q old) (λ last. subst (λ (r : Doing). KnowsNow x W r.now) last.1 tt) (doing_cases w q does);
  }
    where
      nobody : (m : ℕ) → order.has [] m ≡ true → ⊥
      nobody m on = cc on

  pub new_seen : SeesDisks x tops W (up k d (with_coord t C) M)
  new_seen = coord_seen x k tops W M d t t.coord C (λ h. coord_new) noted_new sees

-- ---- the label is given

given_seen : (x k : ℕ) (tops : Kinds) (W : World) (M : Seen) (d : Disk) (t : Parts) (l : Label) (g : Labelled) →
    SeesDisks x tops W (up k d t M) → SeesDisks x tops W (up k d t (given l g M))
given_seen x k tops W M d t l g s = record {
  whole = s.whole;
  along = s.along;
  fixed = s.fixed;
  kinds = s.kinds;
  stores = s.stores;
  entry = s.entry;
  records = s.records;
  coords = s.coords;
  notes = s.notes;
  downs = s.downs;
  confirmed = s.confirmed;
  posts = s.posts;
}

pub actions_begin : ActionsBegin
actions_begin x tops e k d t l g how parent above M knows fits W sees =
    let did = begin_action l how parent above t.coord in (
      W,
      says_seen x tops W (up k d (with_coord t did.part) (given l g M)) (numbered e (began_line l how (next_uid t.coord.tree) parent ∷ []))
          (given_seen x k tops W M d (with_coord t did.part) l g (new_seen x k tops W M d t l how above knows fits sees)),
    )
