-- A node that starts anew in an event has no lock at its server while the event goes on: nothing is asked of it then.
use Rattle.arj_law_parts.proofs.Words
use Words.{⊤, ◌≡◌, ◌⊎◌, ◌∙◌, ◌+◌, ◌==◌, ◌&&◌, ◌++◌, not, ℕ, Bool, true, false, if◌then◌else◌, cond, List, [], ◌∷◌, Option, Some, None, refl, sym, ap}
use Words.{subst, inl, inr, arith, nat_tests, and_parts, list_all, eqb-true, Body, End, Header, Message, Uid, Disk, Do, Effect, Say, Send, worked, stopped}
use Words.{Did, did_nothing, Handled, Parts, Took, Void, handle, handle_answer, handle_ask, handle_ends, handle_other, last_end, with_coord, acts as does}
use Words.{acts_own, again_all, again_own, all_both, begin_action, holders, map_own, parent_of, parts_in, query_about, restart_outs, tick_outs}
use Words.{tolds_again, tolds_again_own, is_serial, Post, frame_kind, Node, apply_ends, end_new, end_one, is_told, Server, by_reply}
use Words.{is_coord_line}
use Words.body
use Words.frame
use Words.input
use Words.message
use Words.server
use Rattle.arj_law_parts.proofs.moves.Flat.{post}
use Rattle.arj_law_parts.specs.moves.Moments.{Moment, asks_now, at, down, fits, framed_if, given, halted, is_restart, posted, said, up}
use Rattle.arj_law_parts.specs.moves.With.{ArePlain, KeepsSteps, UpWith, WalksWith, is_plain_line}
use Rattle.arj_law_runs.proofs.kept.Walked.{same_number}
use Rattle.arj_law_serial.proofs.Terms.{up_of}
use Rattle.arj_law_serial.proofs.holding.Says as saying
use Rattle.arj_law_serial.proofs.holding.Says.{All, says}
use Rattle.arj_law_serial.proofs.holding.Sorts.{is_no_start}
use Rattle.arj_law_serial.proofs.holding.Writes.{none_starts}
use Rattle.arj_protocol.specs.Copy.{end_copy}
use Rattle.arj_law_cause.proofs.rows.Inside.{coord_starts, handle_starts}

-- ---- a server without objects

-- it has none
abbrev pub IsEmpty : Server → Type 0
IsEmpty s = s.objects ≡ []

pub one_empty : (n : ℕ) (u : Uid) (e : End) (s : Server) → IsEmpty s → IsEmpty (end_one n u e s).part
one_empty n u e s none = by (is_told u s)
  where
    by : (b : Bool) → IsEmpty (cond {A = Did Server} b (did_nothing s) (end_new n u (server.taken_end u e s) s)).part
    by true = none
    by false = ap (Words.each (λ x. end_copy u (server.taken_end u e s))) none

ends_empty : (n : ℕ) (es : List (Uid × End)) (s : Server) → IsEmpty s → IsEmpty (apply_ends n es s).part
ends_empty n [] s none = none
ends_empty n (e ∷ es) s none = ends_empty n es (end_one n e.0 e.1 s).part (one_empty n e.0 e.1 s none)

abbrev LeavesEmpty : Handled → Type 0
LeavesEmpty (Void outs) = ⊤
LeavesEmpty (Took v outs) = IsEmpty (let p = v in p.server)

other_empty : (k : ℕ) (d : Disk) (t : Parts) (from : ℕ) (m : Message) → IsEmpty t.server → LeavesEmpty (handle_other k d t from m)
other_empty k d t from (message.Told m) none = by (last_end m.ends)
  where
    by : (o : Option (Uid × End)) → LeavesEmpty (handle_ends k d t from m.ack m.ends o)
    by None = none
    by (Some p) = ends_empty k m.ends t.server none
other_empty k d t from (message.Acked m) none = by (Words.acked from m.act d.intents t.coord).reply
  where
    by : (r : Option (Unit {0})) → LeavesEmpty (let z = Words.acked from m.act d.intents t.coord in by_reply (with_coord t z.part) z.outs r)
    by None = tt
    by (Some u) = none
other_empty k d t from (message.Query m) none = none
other_empty k d t from (message.Hello m) none = none
other_empty k d t from m none = tt

-- where nothing is asked or answered
none_empty : (k : ℕ) (d : Disk) (t v : Parts) (from : ℕ) (m : Message) (outs : List Effect) → Words.asks m ≡ None → Words.answers m ≡ None →
    handle k d t from m ≡ Took v outs → IsEmpty t.server → IsEmpty v.server
none_empty k d t v from m outs asks answers is none =
    subst LeavesEmpty (sym (ap (handle_ask k d t from m) asks ∙ ap (handle_answer k d t from m) answers) ∙ is) (other_empty k d t from m none)

-- ---- lines by which no node starts

plain_no : (bs : List Body) → ArePlain bs → (j : ℕ) → list_all (is_no_start j) bs ≡ true
plain_no [] plain j = refl
plain_no (b ∷ bs) plain j = let q = and_parts (is_plain_line b) (list_all is_plain_line bs) plain in λ i. one b q.0 i && plain_no bs q.1 j i
  where
    one : (b : Body) → is_plain_line b ≡ true → is_no_start j b ≡ true
    one (body.Up n i) is = absurd (cc is)
    one b is = refl

coord_no : (j : ℕ) (b : Body) → is_coord_line b ≡ true → is_no_start j b ≡ true
coord_no j (body.Up n i) is = absurd (cc is)
coord_no j b is = refl

turned : (a b : ℕ) → (a == b) ≡ false → (b == a) ≡ false
turned a b is = grind (arith, nat_tests, is)

-- ---- an event of this number

module _ (N : ℕ) where
  -- in a restart a node that starts in this event has no object at its server
  abbrev pub IsAnew : Moment → Type 0
  IsAnew M = is_restart M.past.event ≡ true → (j : ℕ) (n : Node) (t : Parts) → M.seen.nodes j ≡ Some n → n.live ≡ Some t →
      (N == up_of j M.seen.lines) ≡ true → IsEmpty t.server

  -- so it is of all nodes but one
  abbrev But : ℕ → Moment → Type 0
  But k M = is_restart M.past.event ≡ true → (j : ℕ) (n : Node) (t : Parts) → (j == k) ≡ false → M.seen.nodes j ≡ Some n →
      n.live ≡ Some t → (N == up_of j M.seen.lines) ≡ true → IsEmpty t.server

  but_at : (k : ℕ) (d : Disk) (live : Option Parts) (M : Moment) → IsAnew (at k d live M) → But k M
  but_at k d live M h r j n t off there its new = h r j n t
      ((λ i. if off i then Some (record { number = k; disk = d; live = live }) else M.seen.nodes j) ∙ there) its new

  some_is : {A : Type 0} {a b : A} → Some a ≡ Some b → a ≡ b
  some_is {A} {a} {b} is = let e : ◌≡◌ {A = Option A} (Some a) (Some b) = is in cc e

  -- the node is put
  put_at : (k : ℕ) (d : Disk) (live : Option Parts) (M : Moment) → But k M → (is_restart M.past.event ≡ true → (t : Parts) →
      live ≡ Some t → (N == up_of k M.seen.lines) ≡ true → IsEmpty t.server) → IsAnew (at k d live M)
  put_at k d live M but own r j n t there its new = by (j == k) refl there
    where
      by : (b : Bool) → (j == k) ≡ b → (if b then Some (record { number = k; disk = d; live = live }) else M.seen.nodes j) ≡ Some n →
          IsEmpty t.server
      by false off put = but r j n t off put its new
      by true same put = own r t (ap (λ (z : Node). z.live) (some_is put) ∙ its)
          (subst (λ i. (N == up_of i M.seen.lines) ≡ true) (eqb-true j k same) new)

  -- lines come by which none starts
  but_said : (k : ℕ) (M : Moment) (bs : List Body) → ((j : ℕ) → (j == k) ≡ false → list_all (is_no_start j) bs ≡ true) → But k M →
      But k (said bs M)
  but_said k M bs none h r j n t off there its new = h r j n t off there its
      (ap (λ u. N == u) (sym (none_starts j M.past.number bs (none j off) M.seen.lines)) ∙ new)

  all_said : (M : Moment) (bs : List Body) → ((j : ℕ) → list_all (is_no_start j) bs ≡ true) → IsAnew M → IsAnew (said bs M)
  all_said M bs none h r j n t there its new = h r j n t there its
      (ap (λ u. N == u) (sym (none_starts j M.past.number bs (none j) M.seen.lines)) ∙ new)

  halted_anew : (k : ℕ) (d : Disk) (M : Moment) → But k M → IsAnew (halted k d M)
  halted_anew k d M but = all_said (down k d M) (body.Halted k ∷ []) (λ j. refl)
      (put_at k d None M but (λ r t gone new. let no_way : ◌≡◌ {A = Option Parts} None (Some t) = gone in absurd (cc no_way)))

  -- the parts with which the node is up at the end
  abbrev Fine : ℕ → Parts → List Effect → Moment → Type 0
  Fine k v outs M = IsEmpty v.server ⊎ (All (is_no_start k) outs × (is_restart M.past.event ≡ true → (N == up_of k M.seen.lines) ≡ true →
      IsEmpty v.server))

  fine_said : (k : ℕ) (v : Parts) (b : Body) (es : List Effect) (M : Moment) → Fine k v (Say b ∷ es) M → Fine k v es (said (b ∷ []) M)
  fine_said k v b es M (inl none) = inl none
  fine_said k v b es M (inr f) =
      let p = and_parts (is_no_start k b) (list_all (says (is_no_start k)) es) f.0 in
      inr (p.1, (λ r new. f.1 r (ap (λ u. N == u) (sym (none_starts k M.past.number (b ∷ []) (λ i. p.0 i && true) M.seen.lines)) ∙ new)))

  fine_sent : (k : ℕ) (v : Parts) (to : ℕ) (m : Message) (es : List Effect) (M : Moment) → Fine k v (Send to m ∷ es) M → Fine k v es M
  fine_sent k v to m es M (inl none) = inl none
  fine_sent k v to m es M (inr f) = inr ((and_parts true (list_all (says (is_no_start k)) es) f.0).1, f.1)

  fine_done : (k : ℕ) (v : Parts) (w : Words.Work) (es : List Effect) (M : Moment) → Fine k v (Do w ∷ es) M → Fine k v es M
  fine_done k v w es M (inl none) = inl none
  fine_done k v w es M (inr f) = inr ((and_parts true (list_all (says (is_no_start k)) es) f.0).1, f.1)

  -- of a frame that is sent a line comes
  fine_line : (k : ℕ) (v : Parts) (b : Body) (es : List Effect) (M : Moment) → is_no_start k b ≡ true → Fine k v es M →
      Fine k v es (said (b ∷ []) M)
  fine_line k v b es M calm (inl none) = inl none
  fine_line k v b es M calm (inr f) =
      inr (f.0, (λ r new. f.1 r (ap (λ u. N == u) (sym (none_starts k M.past.number (b ∷ []) (λ i. calm i && true) M.seen.lines)) ∙ new)))

  rest : (k : ℕ) (v : Parts) (es : List Effect) (d : Disk) (M : Moment) (p : Post) →
      ((L : Moment) → But k L → Fine k v es L → WalksWith IsAnew k es (UpWith IsAnew k v) d L) → But k M → Fine k v es M →
      (self fit : Bool) → WalksWith IsAnew k es (UpWith IsAnew k v) d (if self then posted p M else framed_if fit p M)
  rest k v es d M p go but fine true fit = go (posted p M) but fine
  rest k v es d M p go but fine false true =
      let b = body.Sent (M.past.frames + 1) p.from p.to (frame_kind p.message) in
      go (framed_if true p M) (but_said k M (b ∷ []) (λ j off. refl) but) (fine_line k v b es M refl fine)
  rest k v es d M p go but fine false false = go M but fine

  walk : (k : ℕ) (v : Parts) (outs : List Effect) (d : Disk) (M : Moment) → ((j : ℕ) → (j == k) ≡ false → All (is_no_start j) outs) →
      But k M → Fine k v outs M → WalksWith IsAnew k outs (UpWith IsAnew k v) d M
  walk k v [] d M none but fine = put_at k d (Some v) M but (λ r t is new. own (some_is is) (by fine r new))
    where
      own : {t : Parts} → v ≡ t → IsEmpty v.server → IsEmpty t.server
      own same none = subst (λ (z : Parts). IsEmpty z.server) same none

      by : Fine k v [] M → is_restart M.past.event ≡ true → (N == up_of k M.seen.lines) ≡ true → IsEmpty v.server
      by (inl none) r new = none
      by (inr f) r new = f.1 r new
  walk k v (Do w ∷ es) d M none but fine = (
    (λ how. halted_anew k (stopped how w d) M but),
    walk k v es (worked w d) M (λ j off. (and_parts true (list_all (says (is_no_start j)) es) (none j off)).1) but (fine_done k v w es M fine),
  )
  walk k v (Say b ∷ es) d M none but fine = walk k v es d (said (b ∷ []) M)
      (λ j off. (and_parts (is_no_start j b) (list_all (says (is_no_start j)) es) (none j off)).1)
      (but_said k M (b ∷ []) (λ j off. λ i. (and_parts (is_no_start j b) (list_all (says (is_no_start j)) es) (none j off)).0 i && true) but)
      (fine_said k v b es M fine)
  walk k v (Send to m ∷ es) d M none but fine = rest k v es d M (post k to m)
      (λ L b f. walk k v es d L (λ j off. (and_parts true (list_all (says (is_no_start j)) es) (none j off)).1) b f) but
      (fine_sent k v to m es M fine) (to == k) (fits M)

  -- a node whose server stays as it is
  stays : (k : ℕ) (d : Disk) (t v : Parts) (outs : List Effect) (M : Moment) → v.server ≡ t.server → All (is_no_start k) outs →
      IsAnew (up k d t M) → Fine k v outs M
  stays k d t v outs M same none h = inr (
    none,
    (λ r new. subst IsEmpty (sym same) (h r k (record { number = k; disk = d; live = Some t }) t
        (λ i. if same_number k i then Some (record { number = k; disk = d; live = Some t }) else M.seen.nodes k) refl new)),
  )

  tick_no : (j k : ℕ) (d : Disk) (t : Parts) → All (is_no_start j) (tick_outs (record { number = k; disk = d; live = Some t }) t)
  tick_no j k d t =
      let r = again_all t.coord.doings t.coord in
      coord_starts (tick_outs (record { number = k; disk = d; live = Some t }) t)
      (all_both Words.is_coord_effect (r.outs ++ tolds_again t.coord.telling) (map_queries) (all_both Words.is_coord_effect
      r.outs (tolds_again t.coord.telling) (again_own t.coord.doings t.coord) (tolds_again_own t.coord.telling))
      (map_own query_about (holders d t) (λ u. refl))) j
    where
      map_queries : List Effect
      map_queries = Words.map query_about (holders d t)

  pub anew_step : (hd : Header) → KeepsSteps hd IsAnew
  anew_step hd = record {
    quiet = λ bs M plain h. all_said M bs (plain_no bs plain) h;
    junk = λ n M fit h. all_said M (body.Sent (M.past.frames + 1) 0 n frame.Junk ∷ []) (λ j. refl) h;
    stop = λ k d live M h. halted_anew k d M (but_at k d live M h);
    message = λ k d t v from m outs M h there meant may is.
        walk k v outs d M (λ j off. handle_starts k d t v from m outs is j) (but_at k d (Some t) M h)
        (inr (
          handle_starts k d t v from m outs is k,
          (λ r new. let nothing = may r in
              none_empty k d t v from m outs nothing.0 nothing.1 is (h r k (record { number = k; disk = d; live = Some t }) t
              (λ i. if same_number k i then Some (record { number = k; disk = d; live = Some t }) else M.seen.nodes k) refl new)),
        ));
    act = λ k d t i M is brings fresh asks free h. let did = does i d.intents t.coord in
        let none = coord_starts did.outs (acts_own i d.intents t.coord) in
        walk k (with_coord t did.part) did.outs d (asks_now i t.coord M) (λ j off. none j) (but_at k d (Some t) M h)
        (stays k d t (with_coord t did.part) did.outs M refl (none k) h);
    begin = λ k d t l how parent M brings fresh new gives free h.
        let did = begin_action l how parent (parent_of parent t.coord) t.coord in
        let none = coord_starts did.outs (acts_own (input.Begin l how parent) d.intents t.coord) in
        walk k (with_coord t did.part) did.outs d (given l (record { node = k; serial = is_serial how }) M) (λ j off. none j)
        (but_at k d (Some t) M h) (stays k d t (with_coord t did.part) did.outs M refl (none k) h);
    tick = λ k d t M h. let r = again_all t.coord.doings t.coord in
        walk k (with_coord t r.part) (tick_outs (record { number = k; disk = d; live = Some t }) t) d M (λ j off. tick_no j k d t)
        (but_at k d (Some t) M h) (stays k d t (with_coord t r.part) (tick_outs (record { number = k; disk = d; live = Some t }) t) M refl
        (tick_no k k d t) h);
    restart = λ k d M event first h. walk k (parts_in k (d.inc + 1) d) (restart_outs hd k (d.inc + 1) d) d M
        (λ j off. saying.restart_says (is_no_start j) hd k (d.inc + 1) d (coord_no j) (λ is u o how. refl) (λ u. refl) (ap not (turned j k off)))
        (but_at k d None M h) (inl refl);
  }
