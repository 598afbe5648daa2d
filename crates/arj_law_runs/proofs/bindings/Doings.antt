-- No node has more actions at work than labels were given.
use Rattle.arj_law_parts.proofs.Words
use Words.{◌≡◌, ◌≤◌, ◌==◌, ◌+◌, ℕ, suc, List, [], ◌∷◌, Bool, true, false, cond, length, Option, Some, None, refl, sym, ◌∙◌, ap, subst}
use Words.{arith, ⊤, insert_entry, is_eq, match_ordering, Ordering, Less, Equal, Greater, length-append, length-map, Uid, Ask, Asked, End}
use Words.{Head, Header, Kind, Label, Message, ObjectState, asks, label_cmp, object, Reply, actor, answers, last_end, again_all}
use Words.{begin_action, heard, Coord, Doing, Already, Disk, Do, Effect, InDoubt, Old, Prep, Ready, Say, Send, Served, held_at, holder_of}
use Words.{is_prepared, prepare_answer, stopped, worked, acked, tick_outs, Naming, Handled, Parts, Took, Void, by_reply, coord_heard}
use Words.{handle, handle_answer, handle_ask, handle_ends, handle_other, if_naming, load_by, load_held, prepare_by, sends_answer, serve}
use Words.{with_coord, Node, acts, parent_of, parts_in, restart_outs, Labelled, Seen, is_serial}
use Words.ask
use Words.message
use Words.prepared
use Rattle.arj_law_runs.proofs.Terms
use Terms.{Keeps, is_act, label_at, at, given, posted, said, up, Up, Walks, halted, same_acked, same_acts, same_again, same_heard}
use Rattle.arj_law_parts.proofs.steps.CoordNames.{SameNames}
use Rattle.arj_law_runs.proofs.calls.ServerCalls.{never, some_is}
use Rattle.arj_law_runs.proofs.kept.{Starts.first_up, Walked.other_number, Walked.same_number}

none_is : {A : Type 0} {x : A} → None ≡ Some x → ⊥
none_is {A} {x} is = let no_way : ◌≡◌ {A = Option A} None (Some x) = is in cc

abbrev at_work : Parts → ℕ
at_work t = length (let c = t.coord in c.doings)

-- actions that have the same labels are as many
as_many : (c e : Coord) → SameNames c e → length e.doings ≡ length c.doings
as_many c e s = sym (length-map e.doings (λ (d : Doing). d.label)) ∙ (ap length s.names ∙ length-map c.doings (λ (d : Doing). d.label))

-- ---- a message

module _ (k : ℕ) (d : Disk) (t : Parts) (from : ℕ) where
  abbrev KeptBy : Handled → Type 0
  KeptBy (Void outs) = ⊤
  KeptBy (Took v outs) = at_work v ≡ at_work t

  answered : (h : Head) (v : Parts) (outs : List Effect) (o : Option Reply) → at_work v ≡ at_work t → KeptBy (sends_answer from h v outs o)
  answered h v outs None same = tt
  answered h v outs (Some r) same = same

  with_it : (f : Naming → Handled) (o : Option Naming) → ((n : Naming) → KeptBy (f n)) → KeptBy (if_naming f o)
  with_it f None each = tt
  with_it f (Some n) each = each n

  asked : (h : Head) (a : Ask) → KeptBy (serve k d t from h a)
  asked h (ask.Bind x include avoid) = with_it _ t.naming (λ n. answered h _ _ _ refl)
  asked h (ask.Load x) = load (holder_of (object x) d.store)
    where
      held : (s : Option ObjectState) → KeptBy (load_held from h t s)
      held None = tt
      held (Some s) = refl

      load : (o : Option Uid) → KeptBy (load_by x d.store from h t o)
      load (Some u) = refl
      load None = held (held_at (object x) d.store)
  asked h (ask.Activate b st) = answered h _ _ _ refl
  asked h (ask.Record x b i g) = with_it _ t.naming (λ n. answered h _ _ _ refl)
  asked h (ask.Invoke x b i ends o) = answered h _ _ _ refl
  asked h (ask.Vote i ties ends) = answered h _ _ _ refl
  asked h (ask.Prepare states) = twice (is_prepared (actor h.path) d.store)
    where
      new : (a : Prep) → KeptBy (prepare_by k states from h t a)
      new Ready = refl
      new (Already u) = tt
      new (Old u w) = refl
      new (InDoubt u holder) = refl

      twice : (b : Bool) → KeptBy (cond b (sends_answer from h t [] (Some (Reply.Prepared prepared.Yes)))
          (prepare_by k states from h t (prepare_answer (actor h.path) states d.store)))
      twice true = refl
      twice false = new (prepare_answer (actor h.path) states d.store)
  asked h (ask.Confirm grants excluded included) = with_it _ t.naming (λ n. answered h _ _ _ refl)

  coord_left : (r : Served Coord (Unit {0})) → SameNames t.coord r.part → KeptBy (coord_heard t r)
  coord_left r s = by r.reply
    where
      by : (o : Option (Unit {0})) → KeptBy (by_reply (with_coord t r.part) r.outs o)
      by None = tt
      by (Some u) = as_many t.coord r.part s

  ends_left : (ack : Bool) (ends : List (Uid × End)) (o : Option (Uid × End)) → KeptBy (handle_ends k d t from ack ends o)
  ends_left ack ends None = refl
  ends_left ack ends (Some e) = refl

  other : (n : Message) → KeptBy (handle_other k d t from n)
  other (message.Told n) = ends_left n.ack n.ends (last_end n.ends)
  other (message.Acked n) = coord_left (acked from n.act d.intents t.coord) (same_acked from n.act d.intents t.coord)
  other (message.Query n) = refl
  other (message.Hello n) = refl
  other (message.Bind n) = tt
  other (message.Bound n) = tt
  other (message.Load n) = tt
  other (message.Loaded n) = tt
  other (message.Activate n) = tt
  other (message.Activated n) = tt
  other (message.RecordMsg n) = tt
  other (message.Recorded n) = tt
  other (message.Invoke n) = tt
  other (message.Invoked n) = tt
  other (message.Vote n) = tt
  other (message.Voted n) = tt
  other (message.Prepare n) = tt
  other (message.Prepared n) = tt
  other (message.Confirm n) = tt
  other (message.Confirmed n) = tt

  message_kept : (m : Message) → KeptBy (handle k d t from m)
  message_kept m = by (asks m)
    where
      answer : (o : Option (Asked × Reply)) → KeptBy (handle_answer k d t from m o)
      answer None = other m
      answer (Some a) = coord_left (heard from a.0 a.1 d.intents t.coord) (same_heard from a.0 a.1 d.intents t.coord)

      by : (o : Option (Head × Ask)) → KeptBy (handle_ask k d t from m o)
      by None = answer (answers m)
      by (Some a) = asked a.0 a.1

-- ---- all nodes

-- no node has more actions at work than labels were given
abbrev pub HaveLabels : Seen → Type 0
HaveLabels M = (j : ℕ) (n : Node) → M.nodes j ≡ Some n → (t : Parts) → n.live ≡ Some t → at_work t ≤ length M.labels

abbrev HaveLabelsOff : ℕ → ℕ → Seen → Type 0
HaveLabelsOff k few M = (j : ℕ) (n : Node) → (j ≡ k → ⊥) → M.nodes j ≡ Some n → (t : Parts) → n.live ≡ Some t → at_work t ≤ few

module _ (k : ℕ) where
  whole : (d : Disk) (live : Option Parts) (M : Seen) → HaveLabelsOff k (length M.labels) M →
      ((t : Parts) → live ≡ Some t → at_work t ≤ length M.labels) → HaveLabels (at k d live M)
  whole d live M others own j n = by (j == k) refl
    where
      by : (b : Bool) → (j == k) ≡ b → cond b (Some (record { number = k; disk = d; live = live })) (M.nodes j) ≡ Some n → (t : Parts) →
          n.live ≡ Some t → at_work t ≤ length M.labels
      by true at_k is = λ t live_is. own t (ap (λ (z : Node). z.live) (some_is is) ∙ live_is)
      by false off is = others j n (λ same. never (ap (λ z. z == k) same ∙ same_number k) off) is

  others_of : (d : Disk) (live : Option Parts) (M : Seen) → HaveLabels (at k d live M) → HaveLabelsOff k (length M.labels) M
  others_of d live M s j n other is =
      s j n ((λ i. cond (other_number j k other i) (Some (record { number = k; disk = d; live = live })) (M.nodes j)) ∙ is)

  own_of : (d : Disk) (t : Parts) (M : Seen) → HaveLabels (up k d t M) → at_work t ≤ length M.labels
  own_of d t M s = s k (record { number = k; disk = d; live = Some t })
      (λ i. cond (same_number k i) (Some (record { number = k; disk = d; live = Some t })) (M.nodes k)) t refl

  stops : (e : ℕ) (d : Disk) (M : Seen) → HaveLabelsOff k (length M.labels) M → HaveLabels (halted e k d M)
  stops e d M others = whole d None M others (λ t is. absurd (none_is is))

  labels_walk : (e : ℕ) (v : Parts) (es : List Effect) (d : Disk) (M : Seen) → HaveLabelsOff k (length M.labels) M →
      at_work v ≤ length M.labels → Walks HaveLabels e k es (Up HaveLabels k v) d M
  labels_walk e v [] d M others own = whole d (Some v) M others (λ t is. subst (λ z. at_work z ≤ length M.labels) (some_is is) own)
  labels_walk e v (Do w ∷ es) d M others own = (λ how. stops e (stopped how w d) M others, labels_walk e v es (worked w d) M others own)
  labels_walk e v (Say b ∷ es) d M others own = labels_walk e v es d (said e (b ∷ []) M) others own
  labels_walk e v (Send to m ∷ es) d M others own =
      λ more quiet. labels_walk e v es d (said e more (posted (record { from = k; to = to; message = m }) M)) others own

  same_walk : (e : ℕ) (t v : Parts) (es : List Effect) (d : Disk) (M : Seen) → HaveLabels (up k d t M) → at_work v ≡ at_work t →
      Walks HaveLabels e k es (Up HaveLabels k v) d M
  same_walk e t v es d M s same =
      labels_walk e v es d M (others_of d (Some t) M s) (less (at_work v) (at_work t) (length M.labels) same (own_of d t M s))
    where
      less : (a b c : ℕ) → a ≡ b → b ≤ c → a ≤ c
      less a b c is le = omega (arith, is, le)

-- a new label is one more
pub one_more : (l : Label) (g : Labelled) (ls : List (Label × Labelled)) → label_at l ls ≡ None →
    length (insert_entry label_cmp ls l g) ≡ suc (length ls)
one_more l g [] none = refl
one_more l g (e ∷ es) none = by (label_cmp l e.0) none (one_more l g es)
  where
    by : (o : Ordering) → cond (is_eq o) (Some e.1) (label_at l es) ≡ None →
        (label_at l es ≡ None → length (insert_entry label_cmp es l g) ≡ suc (length es)) →
        length (match_ordering o ((l, g) ∷ e ∷ es) ((e.0, g) ∷ es) (e ∷ insert_entry label_cmp es l g)) ≡ suc (length (e ∷ es))
    by Less none rest = refl
    by Equal none rest = absurd (none_is (sym none))
    by Greater none rest = ap suc (rest none)

begins_labelled : (e k : ℕ) (d : Disk) (t : Parts) (l : Label) (how : Kind) (parent : Option Label) (g : Labelled) (M : Seen) →
    label_at l M.labels ≡ None → HaveLabels (up k d t M)
    → (let did = begin_action l how parent (parent_of parent t.coord) t.coord in
    Walks HaveLabels e k did.outs (Up HaveLabels k (with_coord t did.part)) d (given l g M))
begins_labelled e k d t l how parent g M new s =
    let did = begin_action l how parent (parent_of parent t.coord) t.coord in
    let N = given l g M in
    let count = one_more l g M.labels new in
    labels_walk k e (with_coord t did.part) did.outs d N
    (λ j n other is u live. up_one (at_work u) (length M.labels) (length N.labels) (others_of k d (Some t) M s j n other is u live) count)
    (with_one (length did.part.doings) (at_work t) (length M.labels) (length N.labels)
    (length-append t.coord.doings (record { label = l; req = 0; now = _; took = [] } ∷ [])) (own_of k d t M s) count)
  where
    up_one : (a b c : ℕ) → a ≤ b → c ≡ suc b → a ≤ c
    up_one a b c le is = omega (arith, le, is)

    with_one : (a b c e : ℕ) → a ≡ b + 1 → b ≤ c → e ≡ suc c → a ≤ e
    with_one a b c e is le more = omega (arith, is, le, more)

none_at_first : (n : ℕ) → 0 ≤ n
none_at_first n = omega arith

pub labels_go : (hd : Header) → Keeps hd HaveLabels
labels_go hd = record {
  quiet = λ e bs M quiet s. s;
  stop = λ e k d live M s. stops k e d M (others_of k d live M s);
  message =
      λ e k d t v from m outs M s there meant is. same_walk k e t v outs d M s (subst (KeptBy k d t from) is (message_kept k d t from m));
  act = λ e k d t i M is none s. let did = acts i d.intents t.coord in
      same_walk k e t (with_coord t did.part) did.outs d M s (as_many t.coord did.part
      (same_acts i d.intents t.coord (λ l how parent same. let no_way : false ≡ true = sym (ap is_act same) ∙ is in absurd (cc no_way))));
  begin = λ e k d t l how parent M new may none s.
      begins_labelled e k d t l how parent (record { node = k; serial = is_serial how }) M new s;
  tick = λ e k d t M s.
      same_walk k e t (with_coord t (again_all t.coord.doings t.coord).part) (tick_outs (record { number = k; disk = d; live = Some t }) t)
      d M s (as_many t.coord (again_all t.coord.doings t.coord).part (same_again t.coord.doings t.coord));
  restart = λ e k d M s. labels_walk k e (parts_in k (d.inc + 1) d) (restart_outs hd k (d.inc + 1) d) d M (others_of k d None M s)
      (none_at_first (length M.labels));
  first = λ st formed j n is t live. subst (λ z. at_work z ≤ 0) (first_up hd st j n t is live) (none_at_first 0);
}
