-- The paths of a coordinator's actions are those of the journal, in every run.
use Rattle.arj_law_parts.proofs.Words
use Words.{◌≡◌, ◌≤◌, ◌&&◌, arith, ℕ, zero, suc, ◌+◌, List, [], ◌∷◌, ◌++◌, length, map, Bool, true, false, cond, slice_get, Option, Some}
use Words.{None, refl, sym, ◌∙◌, ap, subst, inl, inr, option_map, bytes_eq, map-append, In, in_to, Body, Header, Kind, Label, Message, Uid}
use Words.{name, uids_of, again_all, began_line, begin_action, Coord, Doing, doing_of, number_of, Disk, Do, Effect, Say, Send, tick_outs}
use Words.{Parts, Took, handle, is_meant, with_coord, Input, Node, begin_reasons, begin_refusal, branch_named, branch_numbered, parent_of}
use Words.{parts_in, refusal_up, refused_by, restart_outs, Branch, at_place, branch_of, next_uid, path_below, World}
use Words.{numbered, Post, Seen, see, length-map, is_serial}
use Words.body
use Words.kind
use Words.input
use Rattle.arj_law_runs.proofs.Terms
use Terms.{HasNames, Act, act_in, acts, path, path_in, uids, upwards, Action, AreBegun, action_of, paths_of, IsGoodCoord, path_found}
use Terms.{IsAtStarts, begun_tree, IsGoodOf, IsMemory, IsUp, Keeps, MayGive, is_act, label_at, AreQuiet, at, down, given, posted, said, up}
use Terms.{Up, Walks}
use Terms.{halted, path_length, Keeping, walks_both, walks_to, Book, book, new_book, turned, IsKept, IsWritten, Knows, KnowsUp}
use Terms.seen
use Rattle.arj_law_parts.specs.parts.Actions.{act_of}
use Rattle.arj_law_runs.proofs.calls.Reaching.{kept_holds}
use Rattle.arj_law_runs.proofs.coordinators.RunCoords.{IsSo, keeps_names, names_are_kept}
use Rattle.arj_law_runs.proofs.journal
use journal.{Beginning.above_of, Beginning.new_path, Books.book_more, Books.quiet_book, Models.its_acts, Walks.its_own}
use journal.Runs.{act_turns, lines_keep, message_turns, rest_goes, tick_turns}
use Rattle.arj_law_runs.proofs.kept.Begins.{begin_good, its_uid, may as may_begin}
use Rattle.arj_law_runs.proofs.kept.Handled.{act_good, good_coord, message_good, stopped_good, tick_good}
use Rattle.arj_law_runs.proofs.kept.Starts.{first_of, restart_good}
use Rattle.arj_law_runs.proofs.kept.Walked.{same_number}
use Rattle.arj_law_runs.specs.journal.{Knows.after, Paths.AreAlike, Paths.AreShort, Paths.IsAlike, Paths.IsAlikeOf}
use Rattle.arj_law_runs.specs.journal.{Paths.PathsAgree}

-- ---- actions that are alike

-- what a label names was begun, with its path
named_alike : (begun : List Action) (xs : List Act) (l : List ℕ) (s : Act) → AreAlike begun xs → act_in xs l ≡ Some s →
    (a : Action) × In a begun × (s.uid ≡ act_of a) × (uids (path xs l) ≡ uids_of a.path)
named_alike [] [] l s alike is = absurd (cc is)
named_alike [] (x ∷ xs) l s alike is = absurd alike
named_alike (a ∷ begun) [] l s alike is = absurd (cc is)
named_alike (a ∷ begun) (x ∷ xs) l s alike is = by (λ e. named_alike begun xs l s alike.3 e) (bytes_eq x.label l) refl is
  where
    by : (act_in xs l ≡ Some s → (c : Action) × In c begun × (s.uid ≡ act_of c) × (uids (path xs l) ≡ uids_of c.path)) → (b : Bool) →
        bytes_eq x.label l ≡ b → cond b (Some x) (act_in xs l) ≡ Some s
        → (c : Action) × In c (a ∷ begun) × (s.uid ≡ act_of c) × (uids (path (x ∷ xs) l) ≡ uids_of c.path)
    by ih true here e = let same : x ≡ s = cc e in
        (a, inl refl, ap (λ (y : Act). y.uid) (sym same) ∙ alike.0, (λ i. uids (cond (here i) (path_in xs x) (path xs l))) ∙ alike.2)
    by ih false there e = let r = ih e in (r.0, inr r.1, r.2, (λ i. uids (cond (there i) (path_in xs x) (path xs l))) ∙ r.3)

-- ---- a coordinator's paths

module _ (begun : List Action) (all : AreBegun begun) (B : Book) (c : Coord) (alike : AreAlike begun B.acts)
    (coord : IsGoodCoord begun (paths_of begun) c) (knows : Knows B c) where
  pub its_path : (u : Uid) (b : Branch) (q : Doing) → branch_of u c.tree ≡ Some b → doing_of u c ≡ Some q →
      uids (path B.acts (name q.label)) ≡ uids_of b.path
  its_path u b q found does =
      let s = knows.acts u b q found does in
      let r = named_alike begun B.acts (name q.label) s.act alike s.named in
      let same : act_of r.0 ≡ act_of (action_of b) = sym r.2 ∙ s.uid ∙ sym (coord.tree.lists.places u b found) in
      r.3 ∙ sym (path_found begun all r.0 (in_to r.0 begun r.1)) ∙ ap (paths_of begun) same
      ∙ path_found begun all (action_of b) (coord.known u b found)

  -- of what a label stands for
  label_path : HasNames c → (p : Label) (b : Branch) → branch_named p c ≡ Some b → uids (path B.acts (name p)) ≡ uids_of b.path
  label_path names p b is = by (number_of p c) refl is
    where
      got : (ds : List Doing) (j : ℕ) (m : Label) → slice_get (map (λ (x : Doing). x.label) ds) j ≡ Some m →
          (x : Doing) × (slice_get ds j ≡ Some x) × (x.label ≡ m)
      got [] j m at = absurd (cc at)
      got (x ∷ ds) zero m at = (x, refl, cc at)
      got (x ∷ ds) (suc j) m at = got ds j m at

      placed : (j : ℕ) (m : Label) → at_place j (map (λ (x : Doing). x.label) c.doings) ≡ Some m →
          (x : Doing) × (at_place j c.doings ≡ Some x) × (x.label ≡ m)
      placed zero m at = absurd (cc at)
      placed (suc j) m at = got c.doings j m at

      by : (o : Option ℕ) → number_of p c ≡ o → branch_numbered c o ≡ Some b → uids (path B.acts (name p)) ≡ uids_of b.path
      by None at f = absurd (cc f)
      by (Some j) at f =
          let n = names.named p j at in
          let x = placed j n.0 n.1 in
          let u : Uid = record { node = c.tree.node; inc = c.tree.inc; num = j } in
          ap (λ z. uids (path B.acts z)) (sym (ap name x.2 ∙ n.2))
          ∙ its_path u b x.0 ((λ i. cond (same_number c.tree.node i && same_number c.tree.inc i) (at_place j c.tree.branches) None) ∙ f)
          ((λ i. cond (same_number c.tree.node i && same_number c.tree.inc i) (at_place j c.doings) None) ∙ x.1)

-- ---- an action begins

module _ (e k : ℕ) (d : Disk) (t : Parts) (M : Seen) (begun : List Action) (good : IsGoodOf begun (up k d t M))
    (alike : AreAlike begun (let B = book M.lines in B.acts)) (w : IsWritten (up k d t M)) (names : HasNames t.coord)
    (l : Label) (how : Kind) (parent : Option Label) (new : label_at l M.labels ≡ None) (may_give : MayGive M.labels k how parent)
    (free : begin_refusal how t.coord parent ≡ None) where
  named : (p : Label) (b : Branch) → branch_named p t.coord ≡ Some b →
      uids (path (let B = book M.lines in B.acts) (name p)) ≡ uids_of b.path
  named p b is = label_path begun good.begun (book M.lines) t.coord alike (good_coord e k d t M (begun, good)) knows names p b is
    where
      knows : Knows (book M.lines) t.coord
      knows = let o = its_own k d (Some t) M w in let l : KnowsUp (book M.lines) d.intents t.coord = o.live t refl in l.knows

  -- what the journal has above it
  above : uids (upwards (option_map name parent) how (path (let B = book M.lines in B.acts))) ≡ above_of how (parent_of parent t.coord)
  above = by how parent may_give free
    where
      no_top : {A : Type 0} (x : Bool) → kind.Top ≡ cond x kind.Constituent kind.Nested → A
      no_top true is = absurd (cc is)
      no_top false is = absurd (cc is)

      no_serial : {A : Type 0} (x : Bool) → kind.Serial ≡ cond x kind.Constituent kind.Nested → A
      no_serial true is = absurd (cc is)
      no_serial false is = absurd (cc is)

      nested : (p : Label) (f : Option Branch) → branch_named p t.coord ≡ f → refused_by (begin_reasons kind.Nested) t.coord f ≡ None →
          uids (path (let B = book M.lines in B.acts) (name p)) ≡ above_of kind.Nested f
      nested p None is off = absurd (cc off)
      nested p (Some b) is off = named p b is

      constituent : (p : Label) (f : Option Branch) → branch_named p t.coord ≡ f → refused_by (begin_reasons kind.Constituent) t.coord f
          ≡ None → uids (path (let B = book M.lines in B.acts) (name p)) ≡ above_of kind.Constituent f
      constituent p None is off = absurd (cc off)
      constituent p (Some b) is off = named p b is

      by : (h : Kind) (q : Option Label) → MayGive M.labels k h q → begin_refusal h t.coord q ≡ None →
          uids (upwards (option_map name q) h (path (let B = book M.lines in B.acts))) ≡ above_of h (parent_of q t.coord)
      by kind.Top None g f = refl
      by kind.Top (Some p) g f = no_top (let x = g.0 in x.serial) g.3
      by kind.Serial None g f = refl
      by kind.Serial (Some p) g f = no_serial (let x = g.0 in x.serial) g.3
      by kind.Independent None g f = absurd g
      by kind.Independent (Some p) g f = refl
      by kind.Nested None g f = absurd g
      by kind.Nested (Some p) g f = nested p (branch_named p t.coord) refl f
      by kind.Constituent None g f = absurd g
      by kind.Constituent (Some p) g f = constituent p (branch_named p t.coord) refl f

  new_alike : let a : Action = record { path = path_below how (parent_of parent t.coord) (next_uid t.coord.tree); kind = how } in
      AreAlike (a ∷ begun) (let V = turned (book M.lines) (began_line l how (next_uid t.coord.tree) parent) in V.acts)
  new_alike = (
    sym (its_uid e k d t l how parent M new may_give free (begun, good)),
    refl,
    map-append (λ (x : Act). x.uid) (upwards (option_map name parent) how (path (let B = book M.lines in B.acts))) (new_act ∷ [])
        ∙ ap (λ us. us ++ next_uid t.coord.tree ∷ []) above
        ∙ sym (new_path begun good.begun how (parent_of parent t.coord) (next_uid t.coord.tree)
        (may_begin e k d t l how parent M new may_give free (begun, good))),
    alike,
  )
    where
      new_act : Act
      new_act = record {
        id = length (let B = book M.lines in B.acts);
        label = name l;
        kind = how;
        uid = next_uid t.coord.tree;
        parent = option_map name parent;
      }

-- ---- no action begins in any other step

acts_grow : (B : Book) (es : List Effect) → length B.acts ≤ length (let V = after B es in V.acts)
acts_grow B [] = omega arith
acts_grow B (Say b ∷ es) = let more = acts_grow (turned B b) es in one b more
  where
    one : (x : Body) → length (let V = turned B x in V.acts) ≤ length (let V = after (turned B x) es in V.acts) →
        length B.acts ≤ length (let V = after (turned B x) es in V.acts)
    one (body.Began l h u p) le = omega (arith, le)
    one (body.Committing l) le = le
    one (body.Committed l) le = le
    one (body.Aborted l why) le = le
    one (body.Ended l) le = le
    one (body.Recovered n u) le = le
    one x le = le
acts_grow B (Send to m ∷ es) = acts_grow B es
acts_grow B (Do w ∷ es) = acts_grow B es

-- a line behind which there are as many actions begins none
pub none_begins : (B : Book) (b : Body) (es : List Effect) (xs : List Act) → B.acts ≡ xs → (let V = after (turned B b) es in V.acts) ≡ xs →
    (let V = turned B b in V.acts) ≡ xs
none_begins B (body.Began l h u p) es xs is end =
    let V : Book = turned B (body.Began l h u p) in
    let more = acts_grow V es in
    let same : length (let Z = after V es in Z.acts) ≡ length B.acts = ap length (end ∙ sym is) in
    absurd (omega (arith, more, same))
none_begins B (body.Committing l) es xs is end = is
none_begins B (body.Committed l) es xs is end = is
none_begins B (body.Aborted l why) es xs is end = is
none_begins B (body.Ended l) es xs is end = is
none_begins B (body.Recovered n u) es xs is end = is
none_begins B b es xs is end = is

acts_walk : (xs : List Act) (e k : ℕ) (es : List Effect) (d : Disk) (N : Seen) (B : Book) → book N.lines ≡ B → B.acts ≡ xs → (let V = after
    B es in V.acts) ≡ xs → Walks (λ Z. (let V = book Z.lines in V.acts) ≡ xs) e k es (λ c Z. (let V = book Z.lines in V.acts) ≡ xs) d N
acts_walk xs e k [] d N B is at end = ap (λ (V : Book). V.acts) is ∙ at
acts_walk xs e k (Do w ∷ es) d N B is at end = (
  λ how. ap (λ (V : Book). V.acts) (book_more new_book N.lines (numbered e (body.Halted k ∷ [])) ∙ ap (λ X. turned X (body.Halted k)) is)
      ∙ at,
  acts_walk xs e k es _ N B is at end,
)
acts_walk xs e k (Say b ∷ es) d N B is at end = acts_walk xs e k es d (said e (b ∷ []) N) (turned B b)
    (book_more new_book N.lines (numbered e (b ∷ [])) ∙ ap (λ X. turned X b) is) (none_begins B b es xs at end) end
acts_walk xs e k (Send to m ∷ es) d N B is at end = λ more quiet. let p : Post = record { from = k; to = to; message = m } in
    acts_walk xs e k es d (said e more (posted p N)) B
    (book_more new_book N.lines (numbered e more) ∙ quiet_book (book N.lines) e more quiet ∙ is) at end

-- ---- each handler

abbrev pub IsNamed : Seen → Type 0
IsNamed M = IsSo HasNames names_are_kept M

abbrev IsPathed : Seen → Type 0
IsPathed M = IsNamed M × IsAlike M

-- with the actions that were begun
abbrev pub IsPathedOf : List Action → Seen → Type 0
IsPathedOf begun M = IsNamed M × IsAlikeOf begun M

kept_of : (begun : List Action) (M : Seen) → IsPathedOf begun M → IsKept M
kept_of begun M h = ((begun, h.1.0), h.1.2)

alike_walk : (begun : List Action) (xs : List Act) (e k : ℕ) (outs : List Effect) (v : Parts) (d : Disk) (N : Seen) → AreAlike begun xs →
    Walks IsNamed e k outs (Up IsNamed k v) d N → Walks (IsGoodOf begun) e k outs (Up (IsGoodOf begun) k v) d N →
    Walks IsKept e k outs (Up IsKept k v) d N
    → Walks (λ Z. (let V = book Z.lines in V.acts) ≡ xs) e k outs (λ c Z. (let V = book Z.lines in V.acts) ≡ xs) d N →
    Walks (IsPathedOf begun) e k outs (Up (IsPathedOf begun) k v) d N
alike_walk begun xs e k outs v d N alike named good kept same =
    let one = walks_both IsNamed (IsGoodOf begun) e k outs (Up IsNamed k v) (Up (IsGoodOf begun) k v) d N named good in
    let two = walks_both IsKept (λ Z. (let V = book Z.lines in V.acts) ≡ xs) e k outs (Up IsKept k v)
    (λ c Z. (let V = book Z.lines in V.acts) ≡ xs) d N kept same in
    let three = walks_both (λ Z. IsNamed Z × IsGoodOf begun Z) (λ Z. IsKept Z × ((let V = book Z.lines in V.acts) ≡ xs)) e k outs (λ c Z. Up
    IsNamed k v c Z × Up (IsGoodOf begun) k v c Z) (λ c Z. Up IsKept k v c Z × ((let V = book Z.lines in V.acts) ≡ xs)) d N one two in
    walks_to (λ Z. (IsNamed Z × IsGoodOf begun Z) × (IsKept Z × ((let V = book Z.lines in V.acts) ≡ xs))) (IsPathedOf begun) e k outs
    (λ c Z. (Up IsNamed k v c Z × Up (IsGoodOf begun) k v c Z) × (Up IsKept k v c Z × ((let V = book Z.lines in V.acts) ≡ xs)))
    (Up (IsPathedOf begun) k v) d N
    (λ Z h. (h.0.0, (h.0.1, subst (AreAlike begun) (sym h.1.1) alike, (let w = h.1.0 in w.1))))
    (λ c Z h. (h.0.0, (h.0.1, subst (AreAlike begun) (sym h.1.1) alike, (let w = h.1.0 in w.1)))) three

names_at : (k : ℕ) (d : Disk) (t : Parts) (M : Seen) → IsNamed (up k d t M) → HasNames t.coord
names_at k d t M all = let n : Node = record { number = k; disk = d; live = Some t } in
    all.1 k n t (λ i. cond (same_number k i) (Some (record { number = k; disk = d; live = Some t })) (M.nodes k)) refl

module _ (hd : Header) (begun : List Action) where
  names : Keeps hd IsNamed
  names = keeps_names hd

  lines : Keeps hd IsKept
  lines = lines_keep hd

  pub quiet_pathed : (e : ℕ) (bs : List Body) (M : Seen) → AreQuiet bs → IsPathedOf begun M → IsPathedOf begun (said e bs M)
  quiet_pathed e bs M quiet h = (
    names.quiet e bs M quiet h.0,
    (
      h.1.0,
      subst (λ (V : Book). AreAlike begun V.acts) (sym (book_more new_book M.lines (numbered e bs) ∙ quiet_book (book M.lines) e bs quiet))
          h.1.1,
      (let w = lines.quiet e bs M quiet (kept_of begun M h) in w.1),
    ),
  )

  pub stop_pathed : (e k : ℕ) (d : Disk) (live : Option Parts) (M : Seen) → IsPathedOf begun (at k d live M) →
      IsPathedOf begun (halted e k d M)
  stop_pathed e k d live M h = (
    names.stop e k d live M h.0,
    (
      stopped_good k d live M (begun, h.1.0) e,
      subst (λ (V : Book). AreAlike begun V.acts) (sym (book_more new_book M.lines (numbered e (body.Halted k ∷ [])))) h.1.1,
      (let w = lines.stop e k d live M (kept_of begun (at k d live M) h) in w.1),
    ),
  )

  pub message_pathed : (e k : ℕ) (d : Disk) (t v : Parts) (from : ℕ) (m : Message) (outs : List Effect) (M : Seen) → IsPathedOf begun
      (up k d t M) → seen.In (record { from = from; to = k; message = m }) M.sent → is_meant t m ≡ true → handle k d t from m ≡ Took v outs
      → Walks (IsPathedOf begun) e k outs (Up (IsPathedOf begun) k v) d M
  message_pathed e k d t v from m outs M h there meant is =
      let g = message_turns e k d t M (begun, h.1.0) h.1.2 v from m outs there is in
      alike_walk begun (let B = book M.lines in B.acts) e k outs v d M h.1.1 (names.message e k d t v from m outs M h.0 there meant is)
      (message_good e k d t M (begun, h.1.0) v from m outs there is)
      (lines.message e k d t v from m outs M (kept_of begun (up k d t M) h) there meant is)
      (acts_walk (let B = book M.lines in B.acts) e k outs d M (book M.lines) refl refl g.acts)

  pub act_pathed : (e k : ℕ) (d : Disk) (t : Parts) (i : Input) (M : Seen) → is_act i ≡ true → refusal_up hd i t.coord ≡ None →
      IsPathedOf begun (up k d t M)
      → let did = input.acts i d.intents t.coord in
      Walks (IsPathedOf begun) e k did.outs (Up (IsPathedOf begun) k (with_coord t did.part)) d M
  act_pathed e k d t i M is none h =
      let did = input.acts i d.intents t.coord in
      let g = act_turns e k d t M (begun, h.1.0) h.1.2 hd i is none in
      alike_walk begun (let B = book M.lines in B.acts) e k did.outs (with_coord t did.part) d M h.1.1 (names.act e k d t i M is none h.0)
      (act_good e k d t M (begun, h.1.0) hd i is none) (lines.act e k d t i M is none (kept_of begun (up k d t M) h))
      (acts_walk (let B = book M.lines in B.acts) e k did.outs d M (book M.lines) refl refl g.acts)

  pub begin_pathed : (e k : ℕ) (d : Disk) (t : Parts) (l : Label) (how : Kind) (parent : Option Label) (M : Seen) →
      label_at l M.labels ≡ None → MayGive M.labels k how parent → begin_refusal how t.coord parent ≡ None → IsPathedOf begun (up k d t M)
      → let a : Action = record { path = path_below how (parent_of parent t.coord) (next_uid t.coord.tree); kind = how } in
      let did = begin_action l how parent (parent_of parent t.coord) t.coord in
      Walks (IsPathedOf (a ∷ begun)) e k did.outs (Up (IsPathedOf (a ∷ begun)) k (with_coord t did.part)) d
      (given l (record { node = k; serial = is_serial how }) M)
  begin_pathed e k d t l how parent M new may none h =
      let a : Action = record { path = path_below how (parent_of parent t.coord) (next_uid t.coord.tree); kind = how } in
      let w = lines.begin e k d t l how parent M new may none (kept_of begun (up k d t M) h) in (
        names.begin e k d t l how parent M new may none h.0,
        (
          begin_good e k d t l how parent M new may none (begun, h.1.0),
          subst (λ (V : Book). AreAlike (a ∷ begun) V.acts)
              (sym (book_more new_book M.lines (numbered e (began_line l how (next_uid t.coord.tree) parent ∷ []))))
              (new_alike e k d t M begun h.1.0 h.1.1 h.1.2 (names_at k d t M h.0) l how parent new may none),
          w.1,
        ),
      )

  pub tick_pathed : (e k : ℕ) (d : Disk) (t : Parts) (M : Seen) → IsPathedOf begun (up k d t M)
      → Walks (IsPathedOf begun) e k (tick_outs (record { number = k; disk = d; live = Some t }) t)
      (Up (IsPathedOf begun) k (with_coord t (again_all t.coord.doings t.coord).part)) d M
  tick_pathed e k d t M h =
      let g = tick_turns e k d t M (begun, h.1.0) h.1.2 in
      alike_walk begun (let B = book M.lines in
      B.acts) e k (tick_outs (record { number = k; disk = d; live = Some t }) t) (with_coord t (again_all t.coord.doings t.coord).part)
      d M h.1.1 (names.tick e k d t M h.0) (tick_good e k d t M (begun, h.1.0)) (lines.tick e k d t M (kept_of begun (up k d t M) h))
      (acts_walk (let B = book M.lines in
      B.acts) e k (tick_outs (record { number = k; disk = d; live = Some t }) t) d M (book M.lines) refl refl g.acts)

  pub restart_pathed : (e k : ℕ) (d : Disk) (M : Seen) → IsPathedOf begun (down k d M) →
      Walks (IsPathedOf begun) e k (restart_outs hd k (d.inc + 1) d) (Up (IsPathedOf begun) k (parts_in k (d.inc + 1) d)) d M
  restart_pathed e k d M h =
      let g = rest_goes hd e k d M (begun, h.1.0) h.1.2 in
      alike_walk begun (let B = book M.lines in B.acts) e k (restart_outs hd k (d.inc + 1) d) (parts_in k (d.inc + 1) d) d M h.1.1
      (names.restart e k d M h.0) (restart_good hd e k d M (begun, h.1.0)) (lines.restart e k d M (kept_of begun (down k d M) h))
      (acts_walk (let B = book M.lines in B.acts) e k (restart_outs hd k (d.inc + 1) d) d M (book M.lines) refl refl g.acts)

pub first_pathed : (hd : Header) → IsAtStarts hd (IsPathedOf [])
first_pathed hd st formed =
    (let n = keeps_names hd in n.first st formed, (first_of hd st formed, tt, (let k = lines_keep hd in let w = k.first st formed in w.1)))

-- whichever were begun
some_walk : (begun : List Action) (e k : ℕ) (outs : List Effect) (v : Parts) (d : Disk) (N : Seen) →
    Walks (IsPathedOf begun) e k outs (Up (IsPathedOf begun) k v) d N → Walks IsPathed e k outs (Up IsPathed k v) d N
some_walk begun e k outs v d N w = walks_to (IsPathedOf begun) IsPathed e k outs (Up (IsPathedOf begun) k v) (Up IsPathed k v) d N
    (λ Z h. (h.0, (begun, h.1))) (λ c Z h. (h.0, (begun, h.1))) w

pub paths_keep : (hd : Header) → Keeps hd IsPathed
paths_keep hd = record {
  quiet = λ e bs M quiet h. let r = quiet_pathed hd h.1.0 e bs M quiet (h.0, h.1.1) in (r.0, (h.1.0, r.1));
  stop = λ e k d live M h. let r = stop_pathed hd h.1.0 e k d live M (h.0, h.1.1) in (r.0, (h.1.0, r.1));
  message = λ e k d t v from m outs M h there meant is.
      some_walk h.1.0 e k outs v d M (message_pathed hd h.1.0 e k d t v from m outs M (h.0, h.1.1) there meant is);
  act = λ e k d t i M is none h. let did = input.acts i d.intents t.coord in
      some_walk h.1.0 e k did.outs (with_coord t did.part) d M (act_pathed hd h.1.0 e k d t i M is none (h.0, h.1.1));
  begin = λ e k d t l how parent M new may none h.
      let a : Action = record { path = path_below how (parent_of parent t.coord) (next_uid t.coord.tree); kind = how } in
      let r = begin_pathed hd h.1.0 e k d t l how parent M new may none (h.0, h.1.1) in
      (r.0, (a ∷ h.1.0, r.1));
  tick = λ e k d t M h. some_walk h.1.0 e k (tick_outs (record { number = k; disk = d; live = Some t }) t)
      (with_coord t (again_all t.coord.doings t.coord).part) d M (tick_pathed hd h.1.0 e k d t M (h.0, h.1.1));
  restart = λ e k d M h.
      some_walk h.1.0 e k (restart_outs hd k (d.inc + 1) d) (parts_in k (d.inc + 1) d) d M (restart_pathed hd h.1.0 e k d M (h.0, h.1.1));
  first = λ st formed. let h = first_pathed hd st formed in (h.0, ([], h.1));
}

pub paths_agree : (hd : Header) (w : World) → Keeping hd w → PathsAgree w
paths_agree hd w keeping k n t u b q here live found does =
    let r = kept_holds hd w keeping IsPathed (paths_keep hd) in
    let h = r.holds in
    at_end (see r.sent w) h.1.0 h.1.1.0 h.1.1.1 h.1.1.2 here refl
  where
    at_end : (M : Seen) (begun : List Action) → IsGoodOf begun M → AreAlike begun (let B = book M.lines in B.acts) → IsWritten M →
        M.nodes k ≡ Some n → M.lines ≡ w.lines → uids (path (acts w.lines) (name q.label)) ≡ uids_of b.path
    at_end M begun good alike written there same =
        let place = good.places k n there in
        let its : IsUp begun M.sent M.labels k (let z = n.disk in
        z.inc) t = subst (IsMemory begun M.sent M.labels k (let z = n.disk in z.inc)) live place.memory in
        let node = its.good (paths_of begun) (begun_tree begun good.begun) (path_found begun good.begun) in
        let o = written.nodes k n there in
        let l = o.live t live in
        ap (λ ls. uids (path (acts ls) (name q.label))) (sym same)
        ∙ ap (λ xs. uids (path xs (name q.label))) (sym (its_acts M.lines written.right))
        ∙ its_path begun good.begun (book M.lines) t.coord alike node.coord l.knows u b q found does

-- paths of actions are short, as those of nodes are
all_short : (begun : List Action) (xs : List Act) → AreAlike begun xs → AreShort xs
all_short [] [] alike = tt
all_short [] (x ∷ xs) alike = absurd alike
all_short (a ∷ begun) [] alike = absurd alike
all_short (a ∷ begun) (x ∷ xs) alike = (
  (let p = a.path in let most = p.most in let long = path_length p in
      let count : length (uids (path_in xs x)) ≡ length (path_in xs x) = length-map (path_in xs x) (λ (y : Act). y.uid) in
      let same = sym count ∙ ap length alike.2 in omega (arith, most, long, same)),
  all_short begun xs alike.3,
)

pub paths_short : (hd : Header) (w : World) → Keeping hd w → AreShort (acts w.lines)
paths_short hd w keeping =
    let r = kept_holds hd w keeping IsPathed (paths_keep hd) in
    let h = r.holds in
    subst AreShort (its_acts w.lines (let k = h.1.1.2 in k.right)) (all_short h.1.0 (let B = book w.lines in B.acts) h.1.1.1)
