-- The beginning of an action leaves all that holds of nodes and messages.
use Rattle.arj_law_parts.proofs.Words
use Words.{slice_get, lookup, is_eq, nat_cmp, slice_cmp, insert_entry, ◌≡◌, ◌≢◌, ◌≤◌, ◌<◌, ◌+◌, ◌==◌, arith, ℕ, List, [], ◌∷◌, ◌++◌, length}
use Words.{Bool, true, false, cond, nat_le, Option, Some, None, Contains, refl, sym, ◌∙◌, ap, subst, inl, inr, eqb-true, length-append}
use Words.{zero, suc, and_parts, false_from_ne_true, nat_tests, is_on, in_to, Uid, Label, label_cmp, Kind, Path, name, uids_of, End, actor}
use Words.{begin_action, began_line, Coord, number_of, Disk, Parts, with_coord, Node, begin_reasons, begin_refusal, branch_named}
use Words.{branch_numbered, first_reason, parent_of, refused_by, Branch, at_place, is_own, next_uid, path_below, Labelled}
use Words.{Post, Seen, is_serial}
use Words.ending
use Words.kind
use Rattle.arj_law_runs.proofs.Terms
use Terms.{Action, Agree, AreBegun, AreCounted, MayBegin, action_of, paths_of, IsSettled, IsGoodCoord, IsTree, Paths, SaysInc, Seals}
use Terms.{IsDecided, stand_begins, said_on, agree_less, begun_tree, path_found, behind, named_found, off, off_third, IsGood, IsGoodOf}
use Terms.{IsGoodPlace}
use Terms.{IsMemory, IsUp, KnowsLabels, DidKeeps, MayGive, label_at, In, given, said, up}
use Rattle.arj_law_parts.proofs.parts
use parts.{Begun.begins_in_tree, Begun.counted_more, CoordInputs.next_path, EndsSaid.sure_begins, Numbered.num_begins}
use parts.{ObjectsAsked.obj_begins}
use parts.GoodNodes.{begin_well, elsewhere_well, tops_more}
use parts.TrueSteps.{begins_clear, claim_begins, faithful_begins, fits_begins, own_on}
use Rattle.arj_law_parts.specs.{moves.Keeps.kind_below, parts.Actions.Begins}
use Rattle.arj_law_runs.proofs.kept
use kept.{Labels.one_name, Labels.put_label}
use kept.Handled.{begun_of, good_coord, it, one_tree, others_of, place_of, so_of}
use kept.Walked.{IsMine, Others, others_said, up_good}

-- ---- labels

-- a label that is new leaves what others stand for
label_stays : (l : Label) (g : Labelled) (labels : List (Label × Labelled)) → label_at l labels ≡ None → (q : Label) (h : Labelled) →
    label_at q labels ≡ Some h → label_at q (insert_entry label_cmp labels l g) ≡ Some h
label_stays l g labels new q h is = put_label q l g labels ∙ by (is_eq (label_cmp q l)) refl
  where
    by : (b : Bool) → is_eq (label_cmp q l) ≡ b → cond b (Some g) (label_at q labels) ≡ Some h
    by true same = let no_way : ◌≡◌ {A = Option Labelled} None (Some h) = sym new ∙ found (one_name q l same) ∙ is in cc
      where
        found : name q ≡ name l → label_at l labels ≡ label_at q labels
        found n = ap (λ m. lookup (λ x. is_eq (slice_cmp nat_cmp m (name x))) labels) (sym n)
    by false same = is

known_more : (l : Label) (g : Labelled) (labels : List (Label × Labelled)) (c : Coord) → label_at l labels ≡ None → KnowsLabels labels c →
    KnowsLabels (insert_entry label_cmp labels l g) c
known_more l g labels c new known q j is = let k = known q j is in (k.0, k.1, label_stays l g labels new q k.0 k.2, k.3, k.4)

-- ---- places

got_still : {A : Type 0} (xs : List A) (k : ℕ) (a b : A) → slice_get xs k ≡ Some a → slice_get (xs ++ b ∷ []) k ≡ Some a
got_still {A} [] k a b is = let no_way : ◌≡◌ {A = Option A} None (Some a) = is in cc
got_still (x ∷ xs) zero a b is = is
got_still (x ∷ xs) (suc k) a b is = got_still xs k a b is

place_still : {A : Type 0} (xs : List A) (k : ℕ) (a b : A) → at_place k xs ≡ Some a → at_place k (xs ++ b ∷ []) ≡ Some a
place_still {A} xs zero a b is = let no_way : ◌≡◌ {A = Option A} None (Some a) = is in cc
place_still xs (suc k) a b is = got_still xs k a b is

got_last : {A : Type 0} (xs : List A) (a : A) → slice_get (xs ++ a ∷ []) (length xs) ≡ Some a
got_last [] a = refl
got_last (x ∷ xs) a = got_last xs a

place_last : {A : Type 0} (xs : List A) (a : A) (k : ℕ) → k ≡ suc (length xs) → at_place k (xs ++ a ∷ []) ≡ Some a
place_last xs a k is = ap (λ j. at_place j (xs ++ a ∷ [])) is ∙ got_last xs a

serial_same : (how : Kind) → is_serial how ≡ is_serial how
serial_same kind.Top = refl
serial_same kind.Nested = refl
serial_same kind.Serial = refl
serial_same kind.Constituent = refl
serial_same kind.Independent = refl

some_is : {A : Type 0} (a b : A) → Some a ≡ Some b → a ≡ b
some_is {A} a b is = let k : ◌≡◌ {A = Option A} (Some a) (Some b) = is in cc

module _ (e k : ℕ) (d : Disk) (t : Parts) (l : Label) (how : Kind) (parent : Option Label) (M : Seen) (new : label_at l M.labels ≡ None)
    (may_give : MayGive M.labels k how parent) (none : begin_refusal how t.coord parent ≡ None) (good : IsGood (up k d t M)) where
  abbrev c : Coord
  c = t.coord

  abbrev o : Option Branch
  o = parent_of parent c

  abbrev was : IsUp good.0 M.sent M.labels k d.inc t
  was = it e k d t M good

  abbrev begun : AreBegun good.0
  begun = begun_of e k d t M good

  -- ---- it may begin

  -- the branch of a label that isn't refused
  parent_is : (p : Label) → begin_refusal how c (Some p) ≡ None → (g : Labelled) → label_at p M.labels ≡ Some g →
      (b : Branch) × (branch_named p c ≡ Some b) × (is_serial b.kind ≡ g.serial) × (first_reason (begin_reasons how b c) ≡ None)
  parent_is p free g is = by (number_of p c) refl free
    where
      by : (q : Option ℕ) → number_of p c ≡ q → refused_by (begin_reasons how) c (branch_numbered c q) ≡ None →
          (b : Branch) × (branch_named p c ≡ Some b) × (is_serial b.kind ≡ g.serial) × (first_reason (begin_reasons how b c) ≡ None)
      by None at f = let no_way : ◌≡◌ {A = Option ℕ} (Some 6) None = f in cc
      by (Some j) at f =
          let q = was.known p j at in
          let same : q.0 ≡ g = some_is q.0 g (sym q.2 ∙ is) in (
            q.1,
            ap (branch_numbered c) at ∙ q.3,
            q.4 ∙ ap (λ (x : Labelled). x.serial) same,
            ap (refused_by (begin_reasons how) c) (sym q.3) ∙ f,
          )

  -- an independent action doesn't begin in a serializing one
  pub under_plain : how ≡ kind.Independent → (p : Label) → parent ≡ Some p → (g : Labelled) → label_at p M.labels ≡ Some g →
      g.serial ≡ false
  under_plain same p is g at =
      let f = parent_is p (subst (λ q. begin_refusal how c q ≡ None) is none) g at in
      sym f.2 ∙ off_third (begin_reasons kind.Independent f.0 c) (subst (λ h. first_reason (begin_reasons h f.0 c) ≡ None) same f.3)

  contained : (p : Label) (b : Branch) → branch_named p c ≡ Some b → Contains good.0 (action_of b)
  contained p b is = let g = good_coord e k d t M good in
      g.known (actor b.path) b (named_found good.0 (paths_of good.0) (one_tree e k d t M good) [] c g p b is)

  pub may : MayBegin good.0 how o
  may = by how parent may_give none (λ p free g is. parent_is p free g is)
    where
      Finds : Kind → Type 0
      Finds h = (p : Label) → begin_refusal h c (Some p) ≡ None → (g : Labelled) → label_at p M.labels ≡ Some g →
          (b : Branch) × (branch_named p c ≡ Some b) × (is_serial b.kind ≡ g.serial) × (first_reason (begin_reasons h b c) ≡ None)

      plain_parent : (g : Labelled) → kind.Nested ≡ kind_below g → g.serial ≡ false
      plain_parent g = is_off g.serial
        where
          is_off : (b : Bool) → kind.Nested ≡ cond b kind.Constituent kind.Nested → b ≡ false
          is_off true is = let no_way : kind.Nested ≡ kind.Constituent = is in cc
          is_off false is = refl

      serial_parent : (g : Labelled) → kind.Constituent ≡ kind_below g → g.serial ≡ true
      serial_parent g = is_on_it g.serial
        where
          is_on_it : (b : Bool) → kind.Constituent ≡ cond b kind.Constituent kind.Nested → b ≡ true
          is_on_it true is = refl
          is_on_it false is = let no_way : kind.Constituent ≡ kind.Nested = is in cc

      unserial : (h : Kind) → is_serial h ≡ false → h ≢ kind.Serial
      unserial h is same = let no_way : true ≡ false = sym (ap is_serial same) ∙ is in cc

      serial_is : (h : Kind) → is_serial h ≡ true → h ≡ kind.Serial
      serial_is kind.Serial is = refl
      serial_is kind.Top is = let no_way : false ≡ true = is in cc
      serial_is kind.Nested is = let no_way : false ≡ true = is in cc
      serial_is kind.Constituent is = let no_way : false ≡ true = is in cc
      serial_is kind.Independent is = let no_way : false ≡ true = is in cc

      short : (b : Branch) → first_reason (begin_reasons kind.Nested b c) ≡ None → length (uids_of b.path) < 16
      short b free =
          let rs = begin_reasons kind.Nested b c in
          let one = off rs free in
          let two = off (behind rs) one.1 in
          let three = off (behind (behind rs)) two.1 in
          let four = off (behind (behind (behind rs))) three.1 in
          let five = off (behind (behind (behind (behind rs)))) four.1 in
          below (length (uids_of b.path)) five.0
        where
          below : (n : ℕ) → nat_le 16 n ≡ false → n < 16
          below n is = grind (arith, nat_tests)

      by : (h : Kind) (q : Option Label) → MayGive M.labels k h q → begin_refusal h c q ≡ None → Finds h → MayBegin good.0 h (parent_of q c)
      by kind.Top q give free finds = tt
      by kind.Serial q give free finds = tt
      by kind.Independent q give free finds = tt
      by kind.Nested None give free finds = absurd give
      by kind.Nested (Some p) give free finds =
          let f = finds p free give.0 give.1 in
          subst (λ q. MayBegin good.0 kind.Nested q) (sym f.1)
          (contained p f.0 f.1, unserial f.0.kind (f.2 ∙ plain_parent give.0 give.3), short f.0 f.3)
      by kind.Constituent None give free finds = absurd give
      by kind.Constituent (Some p) give free finds =
          let f = finds p free give.0 give.1 in
          subst (λ q. MayBegin good.0 kind.Constituent q) (sym f.1)
          (contained p f.0 f.1, serial_is f.0.kind (f.2 ∙ serial_parent give.0 give.3))

  -- ---- the new action

  abbrev p : Path
  p = path_below how o (next_uid c.tree)

  abbrev a : Action
  a = record { path = p; kind = how }

  abbrev v : Parts
  v = let r = begin_action l how parent o c in with_coord t r.part

  abbrev labels : List (Label × Labelled)
  labels = insert_entry label_cmp M.labels l (record { node = k; serial = is_serial how })

  pub its_uid : actor p ≡ next_uid c.tree
  its_uid = let n = next_path good.0 begun how o c.tree may in n.uid

  begins : Begins a good.0
  begins = begins_in_tree good.0 begun how o c.tree (subst (λ n. AreCounted n c.tree.inc (length c.tree.branches) good.0) (sym was.node)
      (subst (λ i. AreCounted k i (length c.tree.branches) good.0) (sym was.inc) was.counted)) may

  abbrev acts : List Action
  acts = a ∷ good.0

  path_is : (paths : Paths) → Agree acts paths → uids_of p ≡ paths (next_uid c.tree)
  path_is paths agree = sym (agree a (in_to a acts (inl refl))) ∙ ap paths its_uid

  new_tree : IsTree (paths_of acts)
  new_tree = begun_tree acts (begins, begun)

  new_agrees : Agree acts (paths_of acts)
  new_agrees = path_found acts (begins, begun)

  coord_now : IsGoodCoord good.0 (paths_of acts) c
  coord_now = let n = was.good (paths_of acts) new_tree (agree_less a good.0 (paths_of acts) new_agrees) in n.coord

  -- who is on its path is of this node
  pub its_node : (u : Uid) → is_on (uids_of p) u ≡ true → (u.node ≡ c.tree.node) × (u.inc ≡ c.tree.inc)
  its_node u on = let q = and_parts (u.node == c.tree.node) (u.inc == c.tree.inc) (own_on good.0 begun (paths_of acts) new_tree l how parent
      c coord_now may none (path_is (paths_of acts) new_agrees) u on) in (eqb-true u.node c.tree.node q.0, eqb-true u.inc c.tree.inc q.1)

  -- what a message says committed, or at its commit, is settled here where it is own
  settled : (q : Post) → In q M.sent → (u : Uid) → Seals q.message u → is_own u c.tree ≡ true → IsSettled u c
  settled q there u s own =
      let w = good.1 in
      let at_k : u.node ≡ k = eqb-true u.node c.tree.node (and_parts (u.node == c.tree.node) (u.inc == c.tree.inc) own).0 ∙ was.node in
      let h = so_of k d (Some t) M good q there (sym (w.senders q u there s) ∙ at_k) in
      (h.seals u s).1 own

  clear : (q : Post) → In q M.sent → (u : Uid) → Seals q.message u → is_on (uids_of p) u ≡ false
  clear q there u s = begins_clear good.0 begun (paths_of acts) new_tree l how parent c coord_now may none
      (path_is (paths_of acts) new_agrees) u (settled q there u s)

  -- an action of another node isn't counted there
  counted_elsewhere : (j i count : ℕ) → (j ≡ k → ⊥) → AreCounted j i count good.0 → AreCounted j i count acts
  counted_elsewhere j i count other counted = counted_more j i count count a good.0 counted begins (omega arith)
      (λ same. absurd (other (sym same ∙ ap (λ (u : Uid). u.node) its_uid ∙ was.node)))

  place_on : (j : ℕ) (n : Node) → (j ≡ k → ⊥) → IsGoodPlace good.0 M.sent M.labels j n → IsGoodPlace acts M.sent labels j n
  place_on j n other g = record {
    disk = record { tops = tops_more a good.0 (let x = n.disk in x.intents) g.disk.tops; own = g.disk.own };
    memory = by n.live g.memory;
    records = g.records;
  }
    where
      by : (q : Option Parts) → IsMemory good.0 M.sent M.labels j n.disk.inc q → IsMemory acts M.sent labels j n.disk.inc q
      by None m = (m.0, counted_elsewhere j n.disk.inc m.0 other m.1)
      by (Some w) m = record {
        good = λ paths tree agree. elsewhere_well a good.0 paths w off_it (λ x on. let f = m.voted x on in
            clear f.0 f.1 x f.2) (m.good paths tree (agree_less a good.0 paths agree));
        node = m.node;
        inc = m.inc;
        server = m.server;
        faithful = m.faithful;
        counted = counted_elsewhere j n.disk.inc (length w.coord.tree.branches) other m.counted;
        known = known_more l (record { node = k; serial = is_serial how }) M.labels w.coord new m.known;
        voted = m.voted;
        sure = m.sure;
        numbered = m.numbered;
        objects = m.objects;
      }
        where
          off_it : (u : Uid) → is_on (uids_of p) u ≡ true → is_own u w.coord.tree ≡ false
          off_it u on = false_from_ne_true (is_own u w.coord.tree) (λ own. other (sym (sym (its_node u on).0 ∙ eqb-true u.node
              w.coord.tree.node (and_parts (u.node == w.coord.tree.node) (u.inc == w.coord.tree.inc) own).0 ∙ m.node) ∙ was.node))

  stands : (u : Uid) (x : End) → IsDecided u x c.tree → IsDecided u x v.coord.tree
  stands = let s = stand_begins how p c.tree in s.ends

  mine_on : (q : Post) → In q M.sent → q.from ≡ k → IsMine k d.inc v q.message
  mine_on q there from =
      let w = good.1 in
      let h = so_of k d (Some t) M good q there from in
      record {
        inc = subst (λ f. SaysInc f d.inc q.message) from h.inc;
        node = λ u s. w.senders q u there s ∙ from;
        seals = λ u s. let z = h.seals u s in (
          z.0,
          (claim_begins l how parent c u (w.senders q u there s ∙ from ∙ sym was.node, z.1, subst (λ i. u.inc ≤ i) (sym was.inc) z.0)).1,
        );
        past = h.past;
        said = said_on c v.coord q.message (λ u. refl) stands h.said;
      }

  others : Others acts k d.inc v (given l (record { node = k; serial = is_serial how }) M)
  others =
      let w = good.1 in
      let f = others_of k d (Some t) M good d.inc v mine_on in
      record {
        begun = (begins, begun);
        places = λ j n other is. place_on j n other (f.places j n other is);
        fits = λ q there. fits_begins good.0 begun (paths_of acts) new_tree l how parent c coord_now may none
            (path_is (paths_of acts) new_agrees) q.message (λ u s own. settled q there u s own) (w.fits q there);
        senders = w.senders;
        so = f.so;
        mine = mine_on;
      }

  known_now : KnowsLabels labels v.coord
  known_now q j is = by (is_eq (label_cmp q l)) refl (sym (put_label q l (let u = next_uid c.tree in u.num) c.labels) ∙ is)
    where
      g : Labelled
      g = record { node = k; serial = is_serial how }

      x : Branch
      x = record { path = p; kind = how; ended = None; doomed = false }

      by : (b : Bool) → is_eq (label_cmp q l) ≡ b → cond b (Some (let u = next_uid c.tree in u.num)) (number_of q c) ≡ Some j →
          (h : Labelled) × (b : Branch) × (label_at q labels ≡ Some h) × (at_place j (c.tree.branches ++ x ∷ []) ≡ Some b)
          × (is_serial b.kind ≡ h.serial)
      by true same found = (
        g,
        x,
        put_label q l g M.labels ∙ ap (λ b. cond b (Some g) (label_at q M.labels)) same,
        place_last c.tree.branches x j (sym (some_is (length c.tree.branches + 1) j found) ∙ next (length c.tree.branches)),
        serial_same how,
      )
        where
          next : (n : ℕ) → n + 1 ≡ suc n
          next n = omega arith
      by false apart found = let z = was.known q j found in
          (z.0, z.1, label_stays l g M.labels new q z.0 z.2, place_still c.tree.branches j z.1 x z.3, z.4)

  up_now : IsUp acts M.sent labels k d.inc v
  up_now = record {
    good = λ paths tree agree. begin_well good.0 begun paths tree (agree_less a good.0 paths agree) l how parent t may none (path_is paths
        agree) (λ w on. let f = was.voted w on in clear f.0 f.1 w f.2) (was.good paths tree (agree_less a good.0 paths agree));
    node = was.node;
    inc = was.inc;
    server = was.server;
    faithful = faithful_begins l how parent c was.faithful;
    counted = counted_more k d.inc (length c.tree.branches) (length v.coord.tree.branches) a good.0 was.counted begins
        (omega (arith, longer)) (λ same. inr (ap (λ (u : Uid). u.inc) its_uid ∙ was.inc, its_number));
    known = known_now;
    voted = was.voted;
    sure = sure_begins l how parent c was.sure;
    numbered = num_begins l how parent c was.numbered;
    objects = (obj_begins l how parent c was.objects).0;
  }
    where
      longer : length v.coord.tree.branches ≡ length c.tree.branches + 1
      longer = length-append c.tree.branches (record { path = p; kind = how; ended = None; doomed = false } ∷ [])

      its_number : (let u = actor p in u.num) ≤ length v.coord.tree.branches
      its_number = let same : (let u = actor p in u.num) ≡ length c.tree.branches + 1 = ap (λ (u : Uid). u.num) its_uid in
          omega (arith, same, longer)

  pub begin_good :
      DidKeeps (IsGoodOf acts) e k d t (begin_action l how parent o c) (given l (record { node = k; serial = is_serial how }) M)
  begin_good =
      let M2 = given l (record { node = k; serial = is_serial how }) M in
      let x = place_of k d (Some t) M good in
      up_good acts k d.inc v d (said e (began_line l how (next_uid c.tree) parent ∷ []) M2) (others_said acts k d.inc v e (began_line l how
      (next_uid c.tree) parent ∷ []) M2 others) (record { tops = tops_more a good.0 d.intents x.disk.tops; own = x.disk.own }) refl
      up_now (λ u i r own. stands u ending.Commit (x.records u i r own))
