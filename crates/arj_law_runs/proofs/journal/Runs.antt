-- Each handler keeps the journal right, and what nodes know of it.
use Rattle.arj_law_parts.proofs.Words
use Words.{◌≡◌, ◌≢◌, arith, ℕ, zero, suc, ◌+◌, ◌==◌, List, [], ◌∷◌, ◌++◌, length, map, Bool, true, false, cond, Option, Some}
use Words.{None, refl, sym, ◌∙◌, ap, subst, inl, inr, ⊎_elim, eqb-true, length-append, option_map, is_eq, AllByRecursion, and_parts}
use Words.{in_from, in_to, In, Body, Header, Kind, Label, Message, Row, Uid, label_cmp, last_uid, name, uids_of, again_all, began_line}
use Words.{begin_action, back_lines, Doing, doing_of, new_coord, tell_all, After, Before, Disk, Do, Effect, InPart, Intent, Look, PutInc}
use Words.{Say, Send, Stop, stopped, tick_outs, Named, Naming, Parts, Took, handle, holders, prepared_actions, query_about, with_coord}
use Words.{uid_set, without_number, Input, Node, acts, begin_refusal, node_by, hello_to, naming_at, naming_back, numbers_to}
use Words.{parent_of, parts_in, recovered_records, refusal_up, restart_outs, tolds_again, Branch, at_place, branch_of, is_own, new_tree}
use Words.{next_uid, path_below, Labelled, World, Start, if◌then◌else◌, numbered, Post, Seen, see, is_serial}
use Words.body
use Words.ending
use Words.kind
use Words.input
use Rattle.arj_law_runs.proofs.Terms
use Terms.{Act, act_in, path_in, uids, same_acked, same_acts, same_again, same_heard, KnowsTops, IsCounted, paths_of, IsGood}
use Terms.{IsAtStarts, IsMemory, Remembers, disk_by, Keeps, MayGive, is_act, label_at, AreQuiet, at, down, given, said, up, Up, Walks}
use Terms.{halted, Keeping, walks_both, Book}
use Terms.{book, is_decided, new_book, turned, AreLined, Calls, Claims, Counts, EachRecord, IsCalled, IsGiven, IsKept, IsWritten, Knows}
use Terms.{KnowsUp, Puts, AreIdle, AreLate, AreRight, IsBelow, MayBeFound, Right, has_act}
use Terms.seen
use Rattle.arj_law_runs.proofs.calls.Reaching.{kept_holds}
use Rattle.arj_law_runs.proofs.coordinators.RunUses.{tops_are_kept}
use Rattle.arj_law_runs.proofs.journal
use journal.{Beginning.begins_in, Beginning.new_path_is, Coords.goes_acts, Coords.goes_heard, Likes.some_is, Parts.WellBy}
use journal.{Parts.message_goes, Ties.ties_new, Ties.ties_turn}
use journal.Again.{goes_acked, goes_again, query_partly, records_partly}
use journal.Begun.{begun_calls, begun_knows, given_now, named_first, new_label, new_uid, still_given}
use journal.Books.{Sane, apart_turn, book_more, decided_later, found_decided, later_turn, on_here, quiet_book, quiet_lines, right_more}
use journal.Books.{sane_lines, sane_new, sane_turn, still_named}
use journal.Effects.{ArePartly, Goes, IsPartly, all_flat, all_map, claims_later, goes_before, goes_behind, later_after, sends_partly}
use journal.Effects.{GoesBy, tells_idle}
use journal.Walks.{all_written, base_of, down_written, its_own, node_apart, stop_written, written_walk}
use Rattle.arj_law_runs.proofs.kept.{AllRuns.all_keep, Begins.may as may_begin, Begins.under_plain, Handled.begun_of}
use Rattle.arj_law_runs.proofs.kept.{Handled.good_coord, Handled.it}
use Rattle.arj_law_runs.proofs.kept.{Handled.one_tree, Labels.one_name, Labels.put_label, Parted.IsLeft, Parted.coord_kept}
use Rattle.arj_law_runs.proofs.kept.{Starts.first_at, Starts.live_first, Walked.other_number}
use Rattle.arj_law_runs.specs.journal.Knows.{AreBegun, KnowsNode, after, IsIdle}

-- after right effects a sane book is sane
sane_after : (k : ℕ) (B : Book) (es : List Effect) → AreLined k B es → Sane B → Sane (after B es)
sane_after k B [] lined s = s
sane_after k B (Say b ∷ es) lined s = sane_after k (turned B b) es lined.1 (sane_turn B b lined.0.0 s)
sane_after k B (Send to m ∷ es) lined s = sane_after k B es lined.1 s
sane_after k B (Do w ∷ es) lined s = sane_after k B es lined.1 s

sane_book : (M : Seen) → IsWritten M → Sane (book M.lines)
sane_book M w = sane_lines new_book M.lines w.right sane_new

both : (e k : ℕ) (outs : List Effect) (v : Parts) (d : Disk) (M : Seen) → Walks IsGood e k outs (Up IsGood k v) d M →
    Walks IsWritten e k outs (Up IsWritten k v) d M → Walks IsKept e k outs (Up IsKept k v) d M
both e k outs v d M a b = walks_both IsGood IsWritten e k outs (Up IsGood k v) (Up IsWritten k v) d M a b

-- the other nodes are at home
homes_of : (k : ℕ) (d : Disk) (live : Option Parts) (M : Seen) → IsGood (at k d live M) → (j : ℕ) (n : Node) (t : Parts) → (j ≡ k → ⊥) →
    M.nodes j ≡ Some n → n.live ≡ Some t → t.coord.tree.node ≡ j
homes_of k d live M good j n t other is up =
    let w = good.1 in
    let p = w.places j n ((λ i. cond (other_number j k other i) (Some (record { number = k; disk = d; live = live })) (M.nodes j)) ∙ is) in
    let m = subst (IsMemory good.0 M.sent M.labels j (let x = n.disk in x.inc)) up p.memory in
    m.node

-- ---- a node that is up

module _ (e k : ℕ) (d : Disk) (t : Parts) (M : Seen) (good : IsGood (up k d t M)) (w : IsWritten (up k d t M)) where
  abbrev B : Book
  B = book M.lines

  pub knows_up : KnowsUp (book M.lines) d.intents t.coord
  knows_up = let o = its_own k d (Some t) M w in o.live t refl

  mine : (u : Uid) → is_own u t.coord.tree ≡ true → u.node ≡ k
  mine u own = let i = it e k d t M good in
      eqb-true u.node t.coord.tree.node (and_parts (u.node == t.coord.tree.node) (u.inc == t.coord.tree.inc) own).0 ∙ i.node

  pub works : length t.coord.doings ≡ length t.coord.tree.branches
  works = let i = it e k d t M good in i.faithful.works

  called : EachRecord (IsCalled (book M.lines) k) d.intents
  called u i there = let o = its_own k d (Some t) M w in let r = o.records u i there in (r.here, r.called)

  -- the walk of a step
  walk : (v : Parts) (outs : List Effect) → Goes k (book M.lines) outs v.coord →
      length v.coord.tree.branches ≡ length t.coord.tree.branches → KnowsTops v.coord → Walks IsWritten e k outs (Up IsWritten k v) d M
  walk v outs g count tops =
      let V = after (book M.lines) outs in
      let o = its_own k d (Some t) M w in
      written_walk e k v V (sane_after k (book M.lines) outs g.lined (sane_book (up k d t M) w)) d.inc
      (subst (λ xs. AllByRecursion (λ (a : Act). IsCounted k d.inc (length v.coord.tree.branches) a.uid) xs) (sym g.acts)
      (subst (λ n. Counts k d.inc n (book M.lines)) (sym count) o.counts))
      g.knows g.calls tops outs d M (book M.lines) (base_of k d (Some t) M w (homes_of k d (Some t) M good))
      (subst (λ xs. AllByRecursion (IsGiven M.labels) xs) (sym g.acts) w.labels) refl g.lined g.puts called
      (λ u i there. decided_later (book M.lines) V (later_after (book M.lines) outs) u (let q = knows_up in q.found u i there)) refl

  queries : (X : Book) (us : List Uid) → ArePartly k X (map query_about us)
  queries X us = all_map (IsPartly k X) query_about us (λ u i. sends_partly k X (let z = u in z.node) _ (tt, tt))

  queries_idle : (us : List Uid) → AreIdle (map query_about us)
  queries_idle us = all_map IsIdle query_about us (λ u i. tt)

  -- the lines of a message, of an input, of a tick
  pub message_turns : (v : Parts) (from : ℕ) (m : Message) (outs : List Effect) →
      seen.In (record { from = from; to = k; message = m }) M.sent → handle k d t from m ≡ Took v outs → Goes k (book M.lines) outs v.coord
  message_turns v from m outs there is =
      subst (WellBy k (book M.lines)) is (message_goes k (book M.lines) d t from (let q = knows_up in q.knows) (let q = knows_up in q.calls)
      (λ a r. goes_heard k good.0 (begun_of e k d t M good) (paths_of good.0) (one_tree e k d t M good) (book M.lines) from a r d.intents
      t.coord (good_coord e k d t M good) mine works (let q = knows_up in q.knows) (let q = knows_up in q.calls))
      (λ u. goes_acked k (book M.lines) from u d.intents t.coord (let q = knows_up in q.knows) (let q = knows_up in q.calls))
      (λ u. query_partly k (book M.lines) from u d.intents t.coord works (let q = knows_up in q.knows) (let q = knows_up in q.found))
      m (w.posts (record { from = from; to = k; message = m }) there))

  message_written : (v : Parts) (from : ℕ) (m : Message) (outs : List Effect) → seen.In (record { from = from; to = k; message = m }) M.sent
      → handle k d t from m ≡ Took v outs → Walks IsWritten e k outs (Up IsWritten k v) d M
  message_written v from m outs there is = walk v outs (message_turns v from m outs there is) count tops
    where
      tops : KnowsTops v.coord
      tops = let q = knows_up in subst (IsLeft KnowsTops) is (coord_kept KnowsTops k d t from q.tops
          (λ a r. tops_are_kept.hears good.0 (paths_of good.0) (one_tree e k d t M good) from a r d.intents t.coord
          (good_coord e k d t M good) q.tops)
          (λ u. tops_are_kept.acks from u d.intents t.coord q.tops) m)

      count : length v.coord.tree.branches ≡ length t.coord.tree.branches
      count = subst (IsLeft (λ c. length c.tree.branches ≡ length t.coord.tree.branches)) is
          (coord_kept (λ c. length c.tree.branches ≡ length t.coord.tree.branches) k d t from refl (λ a r.
          let s = same_heard from a r d.intents t.coord in s.count) (λ u. let s = same_acked from u d.intents t.coord in s.count) m)

  no_begin : (i : Input) → is_act i ≡ true → (l : Label) (how : Kind) (parent : Option Label) → i ≢ input.Begin l how parent
  no_begin i is l how parent same = let no_way : false ≡ true = sym (ap is_act same) ∙ is in absurd (cc no_way)

  pub act_turns : (hd : Header) (i : Input) → is_act i ≡ true → refusal_up hd i t.coord ≡ None → let did = acts i d.intents t.coord in
      Goes k (book M.lines) did.outs did.part
  act_turns hd i is none = goes_acts k good.0 (begun_of e k d t M good) (paths_of good.0) (one_tree e k d t M good) (book M.lines) d.intents
      t.coord (good_coord e k d t M good) mine works (let q = knows_up in q.knows) (let q = knows_up in q.calls) hd i none (no_begin i is)

  act_written : (hd : Header) (i : Input) → is_act i ≡ true → refusal_up hd i t.coord ≡ None → let did = acts i d.intents t.coord in
      Walks IsWritten e k did.outs (Up IsWritten k (with_coord t did.part)) d M
  act_written hd i is none =
      let did = acts i d.intents t.coord in
      walk (with_coord t did.part) did.outs (act_turns hd i is none) (let s = same_acts i d.intents t.coord (no_begin i is) in s.count)
      (let q = knows_up in tops_are_kept.does good.0 (paths_of good.0) (one_tree e k d t M good) d.intents t.coord
      (good_coord e k d t M good) q.tops hd i none (no_begin i is))

  pub tick_turns :
      Goes k (book M.lines) (tick_outs (record { number = k; disk = d; live = Some t }) t) (again_all t.coord.doings t.coord).part
  tick_turns =
      let r = again_all t.coord.doings t.coord in
      let q = knows_up in
      let said = q.knows in
      let g = goes_again k (book M.lines) t.coord (tolds_again t.coord.telling) q.knows q.calls
      (records_partly k (book M.lines) t.coord.telling said.telling) in
      goes_before k (book M.lines) (r.outs ++ tolds_again t.coord.telling) (map query_about (holders d t)) r.part g
      (queries (after (book M.lines) (r.outs ++ tolds_again t.coord.telling)) (holders d t)) (queries_idle (holders d t))

  tick_written : Walks IsWritten e k (tick_outs (record { number = k; disk = d; live = Some t }) t)
      (Up IsWritten k (with_coord t (again_all t.coord.doings t.coord).part)) d M
  tick_written =
      walk (with_coord t (again_all t.coord.doings t.coord).part) (tick_outs (record { number = k; disk = d; live = Some t }) t) tick_turns
      (let s = same_again t.coord.doings t.coord in s.count) (let q = knows_up in tops_are_kept.asks t.coord.doings t.coord q.tops)

-- ---- an action begins

-- a parent is of the kind that the label's is
below : (labels : List (Label × Labelled)) (acts : List Act) (k : ℕ) (how : Kind) (parent : Option Label) → AreBegun labels acts →
    MayGive labels k how parent → (how ≡ kind.Independent → (p : Label) → parent ≡ Some p → (g : Labelled) → label_at p labels ≡ Some g →
    g.serial ≡ false) → IsBelow acts how (option_map name parent)
below labels acts k kind.Top None begun may single = tt
below labels acts k kind.Serial None begun may single = tt
below labels acts k kind.Independent (Some p) begun may single = let b = begun p may.0 may.1 in
    (b.0, b.1, b.2 ∙ single refl p refl may.0 may.1)
below labels acts k kind.Nested (Some p) begun may single = let b = begun p may.0 may.1 in
    (b.0, b.1, b.2 ∙ plain (let g = may.0 in g.serial) may.3)
  where
    plain : (x : Bool) → kind.Nested ≡ cond x kind.Constituent kind.Nested → x ≡ false
    plain true is = absurd (cc is)
    plain false is = refl
below labels acts k kind.Constituent (Some p) begun may single = let b = begun p may.0 may.1 in
    (b.0, b.1, b.2 ∙ serial (let g = may.0 in g.serial) may.3)
  where
    serial : (x : Bool) → kind.Constituent ≡ cond x kind.Constituent kind.Nested → x ≡ true
    serial true is = refl
    serial false is = absurd (cc is)
below labels acts k kind.Top (Some p) begun may single = absurd (neither (let g = may.0 in g.serial) may.3)
  where
    neither : (x : Bool) → kind.Top ≡ cond x kind.Constituent kind.Nested → ⊥
    neither true is = cc is
    neither false is = cc is
below labels acts k kind.Serial (Some p) begun may single = absurd (neither (let g = may.0 in g.serial) may.3)
  where
    neither : (x : Bool) → kind.Serial ≡ cond x kind.Constituent kind.Nested → ⊥
    neither true is = cc is
    neither false is = cc is
below labels acts k kind.Nested None begun may single = absurd may
below labels acts k kind.Constituent None begun may single = absurd may
below labels acts k kind.Independent None begun may single = absurd may

module _ (e k : ℕ) (d : Disk) (t : Parts) (M : Seen) (good : IsGood (up k d t M)) (w : IsWritten (up k d t M)) (l : Label) (how : Kind)
    (parent : Option Label) (new : label_at l M.labels ≡ None) (may : MayGive M.labels k how parent)
    (free : begin_refusal how t.coord parent ≡ None) where
  abbrev acts_now : List Act
  acts_now = let b = book M.lines in b.acts

  abbrev g : Labelled
  g = record { node = k; serial = is_serial how }

  abbrev line : Body
  line = began_line l how (next_uid t.coord.tree) parent

  abbrev V : Book
  V = turned (book M.lines) (began_line l how (next_uid t.coord.tree) parent)

  abbrev v : Parts
  v = with_coord t (begin_action l how parent (parent_of parent t.coord) t.coord).part

  named : act_in (let b = book M.lines in b.acts) (name l) ≡ None
  named = new_label M.labels (let b = book M.lines in b.acts) l new w.labels

  node : (next_uid t.coord.tree).node ≡ k
  node = let i = it e k d t M good in i.node

  inc : (next_uid t.coord.tree).inc ≡ d.inc
  inc = let i = it e k d t M good in i.inc

  unknown : has_act (let b = book M.lines in b.acts) (next_uid t.coord.tree) ≡ false
  unknown = let o = its_own k d (Some t) M w in
      new_uid k d.inc (length t.coord.tree.branches) (next_uid t.coord.tree) (let b = book M.lines in b.acts) node inc refl o.counts

  right : Right (book M.lines) (began_line l how (next_uid t.coord.tree) parent)
  right = (
    named,
    unknown,
    below M.labels (let b = book M.lines in b.acts) k how parent w.begun may
        (λ same p is g at. under_plain e k d t l how parent M new may free good same p is g at),
    (let q = knows_up e k d t M good w in begins_in k good.0 (begun_of e k d t M good) (paths_of good.0) (one_tree e k d t M good)
        (book M.lines) t.coord (good_coord e k d t M good) q.knows q.calls (let n = q.tops in n.names) how parent free),
  )

  its_path : uids (path_in (let b = book M.lines in b.acts) (record {
    id = length (let b = book M.lines in b.acts);
    label = name l;
    kind = how;
    uid = next_uid t.coord.tree;
    parent = option_map name parent;
  })) ≡ uids_of (path_below how (parent_of parent t.coord) (next_uid t.coord.tree))
  its_path = let q = knows_up e k d t M good w in
      new_path_is k good.0 (begun_of e k d t M good) (paths_of good.0) (one_tree e k d t M good) (book M.lines) t.coord
      (good_coord e k d t M good) q.knows q.calls (let n = q.tops in n.names) M.labels k how parent
      (record {
        id = length (let b = book M.lines in b.acts);
        label = name l;
        kind = how;
        uid = next_uid t.coord.tree;
        parent = option_map name parent;
      }) refl refl refl may free (may_begin e k d t l how parent M new may free good)

  tops_begun : KnowsTops (begin_action l how parent (parent_of parent t.coord) t.coord).part
  tops_begun = let q = knows_up e k d t M good w in tops_are_kept.begins good.0 (begun_of e k d t M good) (paths_of good.0) (one_tree e k d
      t M good) l how parent t.coord (good_coord e k d t M good) (may_begin e k d t l how parent M new may free good) free q.tops

  longer : length v.coord.tree.branches ≡ length t.coord.tree.branches + 1
  longer = length-append t.coord.tree.branches _

  more : (xs : List Act) → AllByRecursion (λ (a : Act). IsCounted k d.inc (length t.coord.tree.branches) a.uid) xs →
      AllByRecursion (λ (a : Act). IsCounted k d.inc (length v.coord.tree.branches) a.uid) xs
  more [] all = tt
  more (a ∷ xs) all = ((λ at. ⊎_elim (λ lower. inl lower) (λ here. inr (here.0, omega (arith, here.1, longer))) (all.0 at)), more xs all.1)

  -- the new label is that of the new action
  begun_now :
      AreBegun (let S = given l g M in S.labels) (let X = turned (book M.lines) (began_line l how (next_uid t.coord.tree) parent) in X.acts)
  begun_now q h is = by (is_eq (label_cmp q l)) refl (sym (put_label q l g M.labels) ∙ is)
    where
      act : Act
      act = record {
        id = length (let b = book M.lines in b.acts);
        label = name l;
        kind = how;
        uid = next_uid t.coord.tree;
        parent = option_map name parent;
      }

      serial_same : (x : Kind) → is_serial x ≡ is_serial x
      serial_same kind.Top = refl
      serial_same kind.Nested = refl
      serial_same kind.Serial = refl
      serial_same kind.Constituent = refl
      serial_same kind.Independent = refl

      by : (b : Bool) → is_eq (label_cmp q l) ≡ b → cond b (Some (record { node = k; serial = is_serial how })) (label_at q M.labels)
          ≡ Some h → (a : Act) × (act_in (act ∷ (let b = book M.lines in b.acts)) (name q) ≡ Some a) × (is_serial a.kind ≡ h.serial)
      by true same found = (
        act,
        subst (λ m. act_in (act ∷ (let b = book M.lines in b.acts)) m ≡ Some act) (sym (one_name q l same))
            (named_first act (let b = book M.lines in b.acts)),
        serial_same how ∙ ap (λ (x : Labelled). x.serial) (some_is (record { node = k; serial = is_serial how }) h found),
      )
      by false other found = let x = w.begun q h found in
          (x.0, still_named (let b = book M.lines in b.acts) act named (name q) x.0 x.1, x.2)

  begin_written : Walks IsWritten e k (Say line ∷ []) (Up IsWritten k v) d (given l g M)
  begin_written =
      let o = its_own k d (Some t) M w in
      let up_now = knows_up e k d t M good w in
      let sane = sane_book (up k d t M) w in
      let b = base_of k d (Some t) M w (homes_of k d (Some t) M good) in
      let B = book M.lines in
      all_written k V d (Some v) (said e (line ∷ []) (given l g M))
      (record {
        is = book_more new_book M.lines (numbered e (line ∷ []));
        right = right_more new_book M.lines (numbered e (line ∷ [])) w.right (right, tt);
        others = λ j n other is. node_apart k B V (apart_turn k B line right node) (later_turn B line) (λ x roots away ties.
            ties_turn k B x roots away line right node ties) j other n (λ x live. b.homes j n x other is live) (b.others j n other is);
        homes = b.homes;
        posts = λ p there. claims_later B V (later_turn B line) p.message (b.posts p there);
        labels = ((l, g, refl, given_now M.labels l g, sym node), still_given M.labels l g acts_now new w.labels);
        begun = begun_now;
      })
      (record {
        records = λ u i there. let r = o.records u i there in record { here = r.here; called = r.called; kept = r.kept };
        counts = ((λ at. inr (inc, omega (arith, longer))), more acts_now o.counts);
        live = λ x is. let one : v ≡ x = cc is in subst (λ (y : Parts). KnowsUp V d.intents y.coord) one (record {
          knows = begun_knows B sane t.coord l how parent (works e k d t M good w) up_now.knows up_now.calls named unknown its_path;
          calls = begun_calls B sane t.coord l how parent (works e k d t M good w) up_now.knows up_now.calls named unknown its_path;
          tops = tops_begun;
          found = λ u i there. decided_later B V (later_turn B line) u (up_now.found u i there);
        });
      })

-- ---- a restart

-- what is found of records is decided
recovered_lined : (k : ℕ) (B : Book) (is : List (Uid × Intent)) → EachRecord (MayBeFound B k) is → AreLined k B (recovered_records k is)
recovered_lined k B [] each = tt
recovered_lined k B (x ∷ is) each =
    let r = each x.0 x.1 (in_to x (x ∷ is) (inl refl)) in (
      (r, r.here),
      recovered_lined k (turned B (body.Recovered k x.0)) is (λ u i there. let s = each u i
          (in_to (u, i) (x ∷ is) (inr (in_from (u, i) is there))) in record { here = s.here; called = s.called; kept = s.kept }),
    )

recovered_found : (k : ℕ) (B : Book) (is : List (Uid × Intent)) →
    EachRecord (λ u. is_decided (after B (recovered_records k is)) u ≡ true) is
recovered_found k B [] u i there = absurd (in_from (u, i) [] there)
recovered_found k B (x ∷ is) u i there = ⊎_elim
    (λ same. decided_later W (after W (recovered_records k is)) (later_after W (recovered_records k is)) u
    (subst (λ y. is_decided W y ≡ true) (ap (λ (z : Uid × Intent). z.0) same) (found_decided W x.0 (on_here x.0 B.found))))
    (λ old. recovered_found k W is u i (in_to (u, i) is old)) (in_from (u, i) (x ∷ is) there)
  where
    W : Book
    W = turned B (body.Recovered k x.0)

recovered_puts : (k : ℕ) (X : Book) (is : List (Uid × Intent)) → AllByRecursion (Puts X) (recovered_records k is)
recovered_puts k X [] = tt
recovered_puts k X (x ∷ is) = (tt, recovered_puts k X is)

-- whose record is found is late
recovered_late : (k : ℕ) (intents : List (Uid × Intent)) (B : Book) (is : List (Uid × Intent)) →
    ((x : Uid × Intent) → In x is → In x intents) → AreLate (λ u. (i : Intent) × In (u, i) intents) B (recovered_records k is)
recovered_late k intents B [] all = tt
recovered_late k intents B (x ∷ is) all = (
  (λ u same. ((x.1, subst (λ w. In (w, x.1) intents) (some_is x.0 u same) (all x (inl refl))), recovered_idle is)),
  recovered_late k intents (turned B (body.Recovered k x.0)) is (λ y i. all y (inr i)),
)
  where
    recovered_idle : (js : List (Uid × Intent)) → AreIdle (recovered_records k js)
    recovered_idle [] = tt
    recovered_idle (j ∷ js) = (tt, recovered_idle js)

recovered_acts : (k : ℕ) (B : Book) (is : List (Uid × Intent)) → (let V = after B (recovered_records k is) in V.acts) ≡ B.acts
recovered_acts k B [] = refl
recovered_acts k B (x ∷ is) = recovered_acts k (turned B (body.Recovered k x.0)) is

-- a coordinator that starts knows what is decided
new_knows : (B : Book) (k i : ℕ) (telling : List (Uid × Intent)) → ((a : Act) → In a B.acts → is_own a.uid (new_tree k i) ≡ true → ⊥) →
    EachRecord (λ u. is_decided B u ≡ true) telling → Knows B (record (new_coord k i) { telling = telling })
new_knows B k i telling off found = record {
  acts = λ u b q at does. absurd (none u b at);
  lists = λ r. tt;
  plans = λ u q m does is. absurd (no_doing u q does);
  telling = found;
  ties = ties_new B.acts B.accesses (new_tree k i) none off;
}
  where
    none : (u : Uid) (b : Branch) → branch_of u (let c = new_coord k i in c.tree) ≡ Some b → ⊥
    none u b at = by (_) u.num at
      where
        by : (x : Bool) (j : ℕ) → cond x (at_place j []) None ≡ Some b → ⊥
        by true zero is = absurd (cc is)
        by true (suc j) is = absurd (cc is)
        by false j is = absurd (cc is)

    no_doing : (u : Uid) (q : Doing) → doing_of u (new_coord k i) ≡ Some q → ⊥
    no_doing u q at = by (_) u.num at
      where
        by : (x : Bool) (j : ℕ) → cond x (at_place j []) None ≡ Some q → ⊥
        by true zero is = absurd (cc is)
        by true (suc j) is = absurd (cc is)
        by false j is = absurd (cc is)

new_calls : (B : Book) (k i : ℕ) (telling : List (Uid × Intent)) → Calls B (record (new_coord k i) { telling = telling })
new_calls B k i telling u b q at does opened = absurd (none (_) u.num at)
  where
    none : (x : Bool) (j : ℕ) → cond x (at_place j []) None ≡ Some b → ⊥
    none true zero is = absurd (cc is)
    none true (suc j) is = absurd (cc is)
    none false j is = absurd (cc is)

abbrev pub behind_first : List Effect → List Effect
behind_first [] = []
behind_first (e ∷ es) = es

module _ (hd : Header) (e k : ℕ) (d : Disk) (M : Seen) (good : IsGood (down k d M)) (w : IsWritten (down k d M)) where
  own : KnowsNode (book M.lines) k (record { number = k; disk = d; live = None })
  own = its_own k d None M w

  -- the locks that naming gives back
  back_partly : (X : Book) (o : Option Naming) → ArePartly k X (naming_back o)
  back_partly X None = tt
  back_partly X (Some o) = all_flat (IsPartly k X) (λ (x : ℕ × Named). back_lines x.1) o.objects
      (λ x i. all_map (IsPartly k X) (λ (r : Row). Say (body.Granted 1 (last_uid r.holder) r.object r.mode)) (let y = x.1 in
      y.rows) (λ r j. record { lined = (tt, tt); same = refl; puts = tt }))

  asks : (X : Book) (us : List Uid) → ArePartly k X (map query_about us)
  asks X us = all_map (IsPartly k X) query_about us (λ u i. sends_partly k X (let z = u in z.node) _ (tt, tt))

  hellos : (X : Book) (ns : List ℕ) → ArePartly k X (map (hello_to k (d.inc + 1)) ns)
  hellos X ns = all_map (IsPartly k X) (hello_to k (d.inc + 1)) ns (λ n i. sends_partly k X n _ (tt, tt))

  again_idle : (is : List (Uid × Intent)) → AreIdle (tolds_again is)
  again_idle is = all_flat IsIdle (λ (e : Uid × Intent). tell_all e.1.root true ((e.0, ending.Commit) ∷ []) e.1.nodes) is
      (λ e i. tells_idle e.1.root true ((e.0, ending.Commit) ∷ []) e.1.nodes)

  -- nobody began in the new incarnation
  not_yet : (a : Act) → In a (let b = book M.lines in b.acts) → is_own a.uid (new_tree k (d.inc + 1)) ≡ true → ⊥
  not_yet a i own = let o = own_node in let c = o.counts in earlier c.0 (let b = book M.lines in b.acts) c.1 i
    where
      own_node : KnowsNode (book M.lines) k (record { number = k; disk = d; live = None })
      own_node = its_own k d None M w

      parts : ((let u = a.uid in u.node == k) ≡ true) × ((let u = a.uid in u.inc == d.inc + 1) ≡ true)
      parts = and_parts (let u = a.uid in u.node == k) (let u = a.uid in u.inc == d.inc + 1) own

      earlier : (count : ℕ) (xs : List Act) → AllByRecursion (λ (x : Act). IsCounted k d.inc count x.uid) xs → In a xs → ⊥
      earlier count [] all j = j
      earlier count (x ∷ xs) all (inl same) =
          let inc : (let u = x.uid in u.inc) ≡ d.inc + 1 = ap (λ (y : Act). let u = y.uid in u.inc) same
          ∙ eqb-true (let u = a.uid in u.inc) (d.inc + 1) parts.1 in
          ⊎_elim (λ lower. omega (arith, lower, inc)) (λ here. omega (arith, here.0, inc))
          (all.0 (ap (λ (y : Act). let u = y.uid in u.node) same ∙ eqb-true (let u = a.uid in u.node) k parts.0))
      earlier count (x ∷ xs) all (inr j) = earlier count xs all.1 j

  -- behind the new incarnation
  pub rest_goes : GoesBy (λ u. (i : Intent) × In (u, i) d.intents) k (book M.lines)
      (behind_first (behind_first (restart_outs hd k (d.inc + 1) d))) (let p = parts_in k (d.inc + 1) d in p.coord)
  rest_goes =
      let B = book M.lines in
      let c = (let p = parts_in k (d.inc + 1) d in p.coord) in
      let one : List Effect = Say (body.Up k (d.inc + 1)) ∷ Do Look ∷ naming_back (naming_at k (d.inc + 1) d.names) in
      let found : List Effect = Do Look ∷ recovered_records k d.intents in
      let V = after B (recovered_records k d.intents) in
      let is_found = recovered_found k B d.intents in
      let g : GoesBy (λ u. (i : Intent) × In (u, i) d.intents) k B found c = record {
        lined = (tt, recovered_lined k B d.intents (let o = own in o.records));
        knows = new_knows V k (d.inc + 1) d.intents (λ a i. not_yet a (subst (λ xs. In a xs) (recovered_acts k B d.intents) i)) is_found;
        calls = new_calls V k (d.inc + 1) d.intents;
        puts = (tt, recovered_puts k V d.intents);
        acts = recovered_acts k B d.intents;
        late = recovered_late k d.intents B d.intents (λ x i. i);
      } in
      let g1 = goes_behind k B one found c (
        record { lined = (tt, tt); same = refl; puts = tt },
        (record { lined = tt; same = refl; puts = tt }, back_partly B (naming_at k (d.inc + 1) d.names)),
      ) g in
      let tolds : List Effect = tolds_again d.intents in
      let k1 = g1.knows in
      let g2 = goes_before k B (one ++ found) tolds c g1 (records_partly k (after B (one ++ found)) d.intents k1.telling)
      (again_idle d.intents) in
      let us = uid_set (prepared_actions d.store ++ prepared_actions d.names) in
      let g3 = goes_before k B (one ++ found ++ tolds) (map query_about us) c g2 (asks (after B (one ++ found ++ tolds)) us)
      (all_map IsIdle query_about us (λ u i. tt)) in
      goes_before k B (one ++ found ++ tolds ++ map query_about us) (map (hello_to k (d.inc + 1)) (without_number k (numbers_to hd.nodes)))
      c g3 (hellos (after B (one ++ found ++ tolds ++ map query_about us)) (without_number k (numbers_to hd.nodes)))
      (all_map IsIdle (hello_to k (d.inc + 1)) (without_number k (numbers_to hd.nodes)) (λ n i. tt))

  raised : (count : ℕ) (xs : List Act) → AllByRecursion (λ (a : Act). IsCounted k d.inc count a.uid) xs →
      AllByRecursion (λ (a : Act). IsCounted k (d.inc + 1) 0 a.uid) xs
  raised count [] all = tt
  raised count (a ∷ xs) all =
      ((λ at. inl (⊎_elim (λ lower. omega (arith, lower)) (λ here. omega (arith, here.0)) (all.0 at))), raised count xs all.1)

  counted : Counts k (d.inc + 1) 0 (book M.lines)
  counted = let o = own in let c = o.counts in raised c.0 (let b = book M.lines in b.acts) c.1

  homes : (j : ℕ) (n : Node) (t : Parts) → (j ≡ k → ⊥) → M.nodes j ≡ Some n → n.live ≡ Some t → t.coord.tree.node ≡ j
  homes = homes_of k d None M good

  stays_down : IsWritten (halted e k d M)
  stays_down = stop_written e k d None M w homes

  looks : (how : Stop) → IsWritten (halted e k (stopped how Look d) M)
  looks Before = stays_down
  looks After = stays_down
  looks (InPart which) = stays_down

  raises : (how : Stop) → IsWritten (halted e k (stopped how (PutInc (d.inc + 1)) d) M)
  raises Before = stays_down
  raises After =
      down_written e k (book M.lines) (record d { inc = d.inc + 1 }) M 0 (base_of k d None M w homes) (let o = own in o.records) counted
  raises (InPart which) = stays_down

  restart_written : Walks IsWritten e k (restart_outs hd k (d.inc + 1) d) (Up IsWritten k (parts_in k (d.inc + 1) d)) d M
  restart_written = (looks, (raises, the_rest))
    where
      the_rest : Walks IsWritten e k (behind_first (behind_first (restart_outs hd k (d.inc + 1) d)))
          (Up IsWritten k (parts_in k (d.inc + 1) d)) (record d { inc = d.inc + 1 }) M
      the_rest =
          let B = book M.lines in
          let g = rest_goes in
          let es = behind_first (behind_first (restart_outs hd k (d.inc + 1) d)) in
          let V = after B es in
          let o = own in
          let n = g.knows in
          written_walk e k (parts_in k (d.inc + 1) d) V (sane_after k B es g.lined (sane_book (down k d M) w)) (d.inc + 1)
          (subst (λ xs. AllByRecursion (λ (a : Act). IsCounted k (d.inc + 1) 0 a.uid) xs) (sym g.acts) counted) g.knows g.calls
          (tops_are_kept.new k (d.inc + 1) d.intents)
          es (record d { inc = d.inc + 1 }) M B (base_of k d None M w homes)
          (subst (λ xs. AllByRecursion (IsGiven M.labels) xs) (sym g.acts) w.labels) refl g.lined g.puts
          (λ u i there. let r = o.records u i there in (r.here, r.called)) n.telling refl

-- ---- at first

nothing_found : (P : Uid → Type 0) → EachRecord P []
nothing_found P u i there = absurd (in_from (u, i) [] there)

first_knows : (hd : Header) (st : Start) (j : ℕ) → KnowsNode new_book j (node_by hd st j)
first_knows hd st j = record {
  records = nothing_found (MayBeFound new_book j);
  counts = counts (st.up j);
  live = λ t is. let inc = st.incs j + 1 in
      subst (λ (x : Parts). KnowsUp new_book [] x.coord) (live_first hd st j t is) (record {
        knows = new_knows new_book j inc [] (λ a i own. i) (nothing_found (λ u. is_decided new_book u ≡ true));
        calls = new_calls new_book j inc [];
        tops = tops_are_kept.new j inc [];
        found = nothing_found (λ u. is_decided new_book u ≡ true);
      });
}
  where
    counts : (b : Bool) →
        Remembers new_book j (st.incs j + 1) (if b then Some (parts_in j (st.incs j + 1) (disk_by hd st j)) else None)
    counts true = tt
    counts false = (0, tt)

first_written : (hd : Header) → IsAtStarts hd IsWritten
first_written hd st formed = record {
  right = tt;
  nodes = λ j n is. subst (KnowsNode new_book j) (first_at hd st j n is) (first_knows hd st j);
  posts = λ p there. absurd there;
  labels = tt;
  begun = λ l g is. absurd (cc is);
}

quiet_written : (e : ℕ) (bs : List Body) (M : Seen) → AreQuiet bs → IsWritten M → IsWritten (said e bs M)
quiet_written e bs M quiet w =
    let same = sym (book_more new_book M.lines (numbered e bs) ∙ quiet_book (book M.lines) e bs quiet) in
    record {
      right = right_more new_book M.lines (numbered e bs) w.right (quiet_lines (book M.lines) e bs quiet);
      nodes = λ j n is. subst (λ X. KnowsNode X j n) same (w.nodes j n is);
      posts = λ p there. subst (λ X. Claims X p.message) same (w.posts p there);
      labels = subst (λ (X : Book). AllByRecursion (IsGiven M.labels) X.acts) same w.labels;
      begun = subst (λ (X : Book). AreBegun M.labels X.acts) same w.begun;
    }

-- ---- runs

pub lines_keep : (hd : Header) → Keeps hd IsKept
lines_keep hd = record {
  quiet = λ e bs M quiet all. (keep.quiet e bs M quiet all.0, quiet_written e bs M quiet all.1);
  stop = λ e k d live M all. (keep.stop e k d live M all.0, stop_written e k d live M all.1 (homes_of k d live M all.0));
  message = λ e k d t v from m outs M all there meant is. both e k outs v d M (keep.message e k d t v from m outs M all.0 there meant is)
      (message_written e k d t M all.0 all.1 v from m outs there is);
  act = λ e k d t i M is none all. let did = acts i d.intents t.coord in
      both e k did.outs (with_coord t did.part) d M (keep.act e k d t i M is none all.0) (act_written e k d t M all.0 all.1 hd i is none);
  begin = λ e k d t l how parent M new may none all.
      let did = begin_action l how parent (parent_of parent t.coord) t.coord in
      both e k did.outs (with_coord t did.part) d (given l (record { node = k; serial = is_serial how }) M)
      (keep.begin e k d t l how parent M new may none all.0) (begin_written e k d t M all.0 all.1 l how parent new may none);
  tick = λ e k d t M all. both e k (tick_outs (record { number = k; disk = d; live = Some t }) t)
      (with_coord t (again_all t.coord.doings t.coord).part) d M (keep.tick e k d t M all.0) (tick_written e k d t M all.0 all.1);
  restart = λ e k d M all. both e k (restart_outs hd k (d.inc + 1) d) (parts_in k (d.inc + 1) d) d M (keep.restart e k d M all.0)
      (restart_written hd e k d M all.0 all.1);
  first = λ st formed. (keep.first st formed, first_written hd st formed);
}
  where
    keep : Keeps hd IsGood
    keep = all_keep hd

-- in each world of which all holds that handlers keep
pub kept_written : (hd : Header) (w : World) → Keeping hd w → (sent : List Post) × IsWritten (see sent w)
kept_written hd w keeping = let h = kept_holds hd w keeping IsKept (lines_keep hd) in let k = h.holds in (h.sent, k.1)

pub kept_right : (hd : Header) (w : World) → Keeping hd w → AreRight new_book w.lines
kept_right hd w keeping = let z = (kept_written hd w keeping).1 in z.right
