-- In every run what calls and messages say of bindings stands in the journal, and so do servers' copies.
use Rattle.arj_law_parts.proofs.Words
use Words.{◌≡◌, ◌≢◌, ◌∙◌, ◌+◌, ◌++◌, ℕ, Bool, true, false, List, [], ◌∷◌, map, Option, Some, None, refl, sym, ap, subst, inl, inr}
use Words.{AllByRecursion}
use Words.{Body, End, Header, Kind, Label, Message, Uid, asks, again_all, begin_action, Disk, Do, Effect, Intent, Look, PutInc, Say, Send}
use Words.{tell}
use Words.{tell_all, tick_outs, Named, Naming, Parts, Took, handle, holders, is_meant, prepared_actions, query_about, with_coord, uid_set}
use Words.{without_number, Input, Node, acts as does, back_lines, hello_to, naming_at, naming_back, numbers_to, parent_of, parts_in}
use Words.{recovered_records, refusal_up, restart_outs, tolds_again, is_serial, Seen}
use Words.body
use Words.ending
use Words.input
use Rattle.arj_law_lock_view.proofs.moments.Answers.{Known, known_keep}
use Rattle.arj_law_parts.specs.moves.Keeps.{Keeps, is_act}
use Rattle.arj_law_parts.specs.moves.Seen as seen
use Rattle.arj_law_parts.specs.moves.Seen.{AreQuiet, In, given, said, up}
use Rattle.arj_law_parts.specs.moves.Walks.{Up, Walks}
use Rattle.arj_law_runs.proofs.Terms as runs
use runs.{AreTrue, all_flat, all_map, disk_by, paths_of, true_on, true_records, well_acts, well_again}
use Rattle.arj_law_runs.proofs.calls.CoordOuts.{quiet_again}
use Rattle.arj_law_runs.proofs.calls.Given.{KeepsGiven, both_given, keeps_given, kept_both}
use Rattle.arj_law_runs.proofs.kept.Handled.{good_coord, it, one_tree}
use Rattle.arj_law_runs.proofs.kept.Starts.{first_up}
use Rattle.arj_law_runs.proofs.kept.Walked.{same_number}
use Rattle.arj_law_cause.proofs.bindings.Asking.{at_acts, at_again, at_new}
use Rattle.arj_law_cause.proofs.bindings.Copies.{Copies, HasCopies, active_by, copies_given}
use Rattle.arj_law_cause.proofs.bindings.Counted.{HasNames, KnowsNames, names_keep}
use Rattle.arj_law_cause.proofs.bindings.Handled.{By, message_by}
use Rattle.arj_law_cause.proofs.bindings.Lines.{IsLined}
use Rattle.arj_law_cause.proofs.bindings.Posts
use Posts.{AllPosted, At, PostedSo, Says, all_claims, anything, asks_posts, at_later, coord_posts, halts_so, later_more, later_same, off_of}
use Posts.{own_of}
use Rattle.arj_law_cause.proofs.bindings.Named.{IsNamingSo, OfInc, recovered_so}
use Rattle.arj_law_cause.proofs.bindings.Ones.{met_alike}
use Rattle.arj_law_cause.proofs.bindings.Since.{met_in}
use Rattle.arj_model.specs.Refusals.{incarnation}
use Words.{◌==◌, Binding, binding_eq, recovered_naming}
use Posts.{plain_post, posts_both, quiet_posts, sent_later, walk}

-- what is known of requests, and of naming
abbrev pub Base : Seen → Type 0
Base M = Known M × KnowsNames M

-- and of copies
abbrev Beside : Seen → Type 0
Beside M = Base M × Copies M

module _ (k : ℕ) (d : Disk) (t : Parts) (M : Seen) where
  abbrev here_node : Node
  here_node = record { number = k; disk = d; live = Some t }

  here : (let N = up k d t M in N.nodes k) ≡ Some (record { number = k; disk = d; live = Some t })
  here = λ i. Words.cond (same_number k i) (Some (record { number = k; disk = d; live = Some t })) (M.nodes k)

  names_of : Beside (up k d t M) → HasNames k t M.start M.lines
  names_of h = (let n = h.0.1.1 in n.1 k (record { number = k; disk = d; live = Some t }) t here refl)

  copies_of : Beside (up k d t M) → HasCopies k t.server M.start M.lines
  copies_of h = h.1.1 k (record { number = k; disk = d; live = Some t }) t here refl

  inc_now : Beside (up k d t M) → incarnation M.start M.lines k ≡ d.inc
  inc_now h = (let q = h.0.1.0.1 k (record { number = k; disk = d; live = Some t }) here in q.1 t refl).0

  alike_of : Beside (up k d t M) → (x : ℕ) (b c : Binding) (s r i : ℕ) → binding_eq b c ≡ true → IsLined M.lines x b s →
      IsLined M.lines x c r → met_in M.start M.lines x c r i → met_in M.start M.lines x b s i
  alike_of h = met_alike M.start M.lines h.0.1.1.0

  message_walk : (e : ℕ) (v : Parts) (from : ℕ) (m : Message) (outs : List Effect) → Beside (up k d t M) → Says (up k d t M) →
      In (record { from = from; to = k; message = m }) M.sent → is_meant t m ≡ true → handle k d t from m ≡ Took v outs →
      Walks Says e k outs (Up Says k v) d M
  message_walk e v from m outs h says there meant is =
      let known = h.0.0.0 in
      let r = subst (By k d t M known.0.0 known.1 h.0.1.1.0 (names_of h) (copies_of h) (inc_now h) says from m there) is
      (message_by k d t M known.0.0 known.1 h.0.1.1.0 (names_of h) (copies_of h) (inc_now h) says from m there meant) in
      walk k e v outs M.sent d M (λ z i. i) says.sent (off_of k d (Some t) M says) r.0 (r.1 e)

  act_walk : (hd : Header) (e : ℕ) (i : Input) → is_act i ≡ true → refusal_up hd i t.coord ≡ None → Beside (up k d t M) →
      Says (up k d t M) →
      (let did = does i d.intents t.coord in Walks Says e k did.outs (Up Says k (with_coord t did.part)) d M)
  act_walk hd e i is none h says =
      let did = does i d.intents t.coord in
      let good = h.0.0.0.0.0 in
      let w = well_acts good.0 (paths_of good.0) (one_tree e k d t M good) d.intents t.coord (good_coord e k d t M good)
      (let u = it e k d t M good in let f = u.faithful in f.works) hd i none other in
      let mine = own_of k d t M says in
      let q = at_acts (IsLined M.lines) (active_by M.lines) (met_in M.start M.lines) (alike_of h) i d.intents t.coord mine.0 in
      walk k e (with_coord t did.part) did.outs M.sent d M (λ z j. j) says.sent (off_of k d (Some t) M says) (q.0, mine.1)
      (all_claims k M.start M.sent e M.lines did.outs (coord_posts k M.start M.sent M.lines did.part did.outs w.1 q.1) M.lines
      (later_same M.lines))
    where
      other : (l : Label) (how : Kind) (parent : Option Label) → i ≢ input.Begin l how parent
      other l how parent same = let no_way : false ≡ true = sym (ap is_act same) ∙ is in cc

  begin_walk : (e : ℕ) (l : Label) (how : Kind) (parent : Option Label) → Beside (up k d t M) → Says (up k d t M) →
      (let did = begin_action l how parent (parent_of parent t.coord) t.coord in
      Walks Says e k did.outs (Up Says k (with_coord t did.part)) d (given l (record { node = k; serial = is_serial how }) M))
  begin_walk e l how parent h says =
      let did = begin_action l how parent (parent_of parent t.coord) t.coord in
      let mine = own_of k d t M says in
      let q = at_acts (IsLined M.lines) (active_by M.lines) (met_in M.start M.lines) (alike_of h) (input.Begin l how parent) d.intents
      t.coord mine.0 in
      walk k e (with_coord t did.part) did.outs M.sent d (given l (record { node = k; serial = is_serial how }) M) (λ z j. j) says.sent
      (off_of k d (Some t) M says) (q.0, mine.1) (all_claims k M.start M.sent e M.lines did.outs (tt, tt) M.lines (later_same M.lines))

  tick_walk : (e : ℕ) → Beside (up k d t M) → Says (up k d t M) → Walks Says e k
      (tick_outs (record { number = k; disk = d; live = Some t }) t)
      (Up Says k (with_coord t (again_all t.coord.doings t.coord).part)) d M
  tick_walk e h says =
      let r = again_all t.coord.doings t.coord in
      let good = h.0.0.0.0.0 in
      let w = well_again good.0 (paths_of good.0) (one_tree e k d t M good) t.coord (good_coord e k d t M good) in
      let tolds = tolds_again t.coord.telling in
      let truly : AreTrue r.part tolds = true_on t.coord r.part w.0 tolds
      (true_records t.coord (let u = it e k d t M good in u.faithful)) in
      let mine = own_of k d t M says in
      let q = at_again (IsLined M.lines) (active_by M.lines) (met_in M.start M.lines) (alike_of h) t.coord mine.0 in
      walk k e (with_coord t r.part) (tick_outs (record { number = k; disk = d; live = Some t }) t) M.sent d M (λ z j. j) says.sent
      (off_of k d (Some t) M says) (q.0, mine.1)
      (all_claims k M.start M.sent e M.lines (tick_outs (record { number = k; disk = d; live = Some t }) t)
      (posts_both k M.start M.sent M.lines (r.outs ++ tolds) (map query_about (holders d t))
      (posts_both k M.start M.sent M.lines r.outs tolds (coord_posts k M.start M.sent M.lines r.part r.outs w.1 q.1)
      (quiet_posts k M.start M.sent M.lines r.part tolds truly (quiet_again t.coord.telling)))
      (asks_posts k M.start M.sent M.lines (holders d t))) M.lines (later_same M.lines))

-- ---- a restart

-- naming that starts knows of no incarnation
new_naming : (k i : ℕ) (d : Disk) (I : OfInc) (n : Naming) → (let v = parts_in k i d in v.naming) ≡ Some n → IsNamingSo anything I n
new_naming k i d I n = by (k == 1)
  where
    by : (b : Bool) → Words.cond b (Some (recovered_naming i d.names)) None ≡ Some n → IsNamingSo anything I n
    by false is = let no_way : ◌≡◌ {A = Option Naming} None (Some n) = is in absurd (cc no_way)
    by true is = let same : ◌≡◌ {A = Option Naming} (Some (recovered_naming i d.names)) (Some n) = is in
        let one : recovered_naming i d.names ≡ n = cc in subst (IsNamingSo anything I) one (recovered_so anything I i d.names)

module _ (hd : Header) (e k : ℕ) (d : Disk) (M : Seen) (says : Says (seen.down k d M)) where
  posts : AllPosted k M.start M.sent M.lines (restart_outs hd k (d.inc + 1) d)
  posts = posts_both k M.start M.sent M.lines four hellos (posts_both k M.start M.sent M.lines three queries
      (posts_both k M.start M.sent M.lines two tolds (posts_both k M.start M.sent M.lines one records
      (tt, (tt, (tt, (tt, back (naming_at k (d.inc + 1) d.names)))))
      (tt, all_map (PostedSo k M.start M.sent M.lines) (λ (e : Uid × Intent). Say (body.Recovered k e.0)) d.intents (λ e. tt)))
      (all_flat (PostedSo k M.start M.sent M.lines) (λ (e : Uid × Intent). tell_all e.1.root true ((e.0, ending.Commit) ∷ []) e.1.nodes)
      d.intents (λ e. all_map (PostedSo k M.start M.sent M.lines) (tell e.1.root true ((e.0, ending.Commit) ∷ [])) e.1.nodes
      (λ n. plain_post k M.start M.sent M.lines n _ refl refl)))) (asks_posts k M.start M.sent M.lines
      (uid_set (prepared_actions d.store ++ prepared_actions d.names)))) (all_map (PostedSo k M.start M.sent M.lines) (hello_to k (d.inc +
      1))
      (without_number k (numbers_to hd.nodes)) (λ w. plain_post k M.start M.sent M.lines w _ refl refl))
    where
      back : (o : Option Naming) → AllPosted k M.start M.sent M.lines (naming_back o)
      back None = tt
      back (Some o) = all_flat (PostedSo k M.start M.sent M.lines) (λ (e : ℕ × Named). back_lines e.1) o.objects
          (λ e. all_map (PostedSo k M.start M.sent M.lines) _ e.1.rows (λ r. tt))

      one : List Effect
      one = Do Look ∷ Do (PutInc (d.inc + 1)) ∷ Say (body.Up k (d.inc + 1)) ∷ Do Look ∷ naming_back (naming_at k (d.inc + 1) d.names)

      records : List Effect
      records = Do Look ∷ recovered_records k d.intents

      two : List Effect
      two = one ++ records

      tolds : List Effect
      tolds = tolds_again d.intents

      three : List Effect
      three = two ++ tolds

      queries : List Effect
      queries = map query_about (uid_set (prepared_actions d.store ++ prepared_actions d.names))

      four : List Effect
      four = three ++ queries

      hellos : List Effect
      hellos = map (hello_to k (d.inc + 1)) (without_number k (numbers_to hd.nodes))

  restart_walk : Walks Says e k (restart_outs hd k (d.inc + 1) d) (Up Says k (parts_in k (d.inc + 1) d)) d M
  restart_walk = walk k e (parts_in k (d.inc + 1) d) (restart_outs hd k (d.inc + 1) d) M.sent d M (λ z j. j) says.sent
      (off_of k d None M says)
      (at_new (IsLined M.lines) (active_by M.lines) (met_in M.start M.lines) k (d.inc + 1) d.intents, named)
      (all_claims k M.start M.sent e M.lines (restart_outs hd k (d.inc + 1) d) posts M.lines (later_same M.lines))
    where
      named : (n : Naming) → (let v = parts_in k (d.inc + 1) d in v.naming) ≡ Some n → IsNamingSo anything (met_in M.start M.lines) n
      named = new_naming k (d.inc + 1) d (met_in M.start M.lines)

-- ---- in each run

says_given : (hd : Header) → KeepsGiven hd Beside Says
says_given hd = record {
  quiet = λ e bs M quiet g h. let l = later_more M.lines (Words.numbered e bs) in record {
    sent = sent_later 0 M.start M.sent M.lines (M.lines ++ Words.numbered e bs) l h.sent;
    works = λ j n t there live. at_later M.start M.lines (M.lines ++ Words.numbered e bs) l t (h.works j n t there live);
  };
  stop = λ e k d live M g h. halts_so k e d M h.sent (off_of k d live M h);
  message = λ e k d t v from m outs M g h there meant is. message_walk k d t M e v from m outs g h there meant is;
  act = λ e k d t i M is none g h. act_walk k d t M hd e i is none g h;
  begin = λ e k d t l how parent M new may none g h. begin_walk k d t M e l how parent g h;
  tick = λ e k d t M g h. tick_walk k d t M e g h;
  restart = λ e k d M g h. restart_walk hd e k d M h;
  first = λ st formed. record {
    sent = λ p i. absurd i;
    works = λ j n t there live. subst (λ (z : Parts). At st [] z) (first_up hd st j n t there live) (
      at_new (IsLined []) (active_by []) (met_in st []) j (st.incs j + 1) (let z = disk_by hd st j in z.intents),
      new_naming j (st.incs j + 1) (disk_by hd st j) (met_in st []),
    );
  };
}

-- all that is known of bindings
abbrev pub KnowsBindings : Seen → Type 0
KnowsBindings M = Base M × (Says M × Copies M)

pub bindings_keep : (hd : Header) → Keeps hd KnowsBindings
bindings_keep hd = kept_both hd Base (λ M. Says M × Copies M)
    (kept_both hd Known KnowsNames (known_keep hd) (keeps_given hd Known KnowsNames (names_keep hd)))
    (both_given hd Base Says Copies (says_given hd) (copies_given hd (λ M. Base M × Says M) (λ k d M h. h.0.1.0) (λ k d t M h. h.0.1.1)
    (λ k d t M h from m there. (let s = h.1 in let p = s.sent (record { from = from; to = k; message = m }) there in p.asking))))
