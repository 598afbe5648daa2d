-- What a node makes of a message is void exactly by the table.
use Rattle.arj_law_parts.proofs.Words
use Words.{◌≡◌, ◌==◌, ℕ, Bool, true, false, cond, not, List, [], ◌∷◌, map, refl, sym, ◌∙◌, ap, subst, Option, Some, None, ◌&&◌, ◌||◌}
use Words.{is_some}
use Words.{option_map, list_all, list_any, and_parts, Ask, Asked, Binding, End, Head, Message, ObjectState, RecordedReply, Uid, asks}
use Words.{object, Reply, actor, answers, ask_kind, last_end, reply_kind, top_of, Grants, confirm, has_all, Already, Did, Disk, InDoubt}
use Words.{Intent}
use Words.{Old, Prep, Ready, Served, held_at, holder_of, is_prepared, prepare_answer, reply, void, Made, Named, note_named, note_other}
use Words.{note_made, is_binding, in_use, lower_lines, lowered, bind_named, listed_entry, on_counted, Naming, is_over, on_named, Handled}
use Words.{Parts, Took, Void, coord_heard, handle, handle_answer, handle_ask}
use Words.{handle_ends, handle_other, if_naming, load_by, load_held, prepare_by, sends_answer, serve, served, with_coord, with_naming}
use Words.{with_server}
use Words.{at_number, at_uid, has, without_number, active_binding, binding_less, has_ended, is_below, Coord, Doing, Now, Idle, Calling}
use Words.{Committing, doing_of}
use Words.{acked, acked_by, acked_left, heard, heard_by, heard_doing, heard_none, heard_now, waits_for_call, waits_for_commit}
use Words.{Machine, Voting, Preparing, Confirming, ask_of, left_of, plan_of, next_ask, next_node, by_reply}
use Words.ask
use Words.message
use Words.prepared
use Words.recorded
use Words.what
use Words.naming
use Rattle.arj_law_promise.proofs.Terms.{IsVoid}
use Rattle.arj_law_promise.proofs.waiting.Replies.{activate_answers, bind_answers, confirm_answers, invoke_answers, vote_answers}
use Rattle.arj_law_promise.specs.meant.Void
use Void.{HandlersAreVoidExactly, IsVoidWhere, answer_is_void, ask_is_void, awaits, awaits_ack, awaits_doing, awaits_now, lists_node}
use Void.{is_already, is_another, is_another_of, is_made, is_to, is_unknown, is_unnamed, is_void, is_void_by, other_is_void}

-- ---- both ways

-- what is answered isn't void
not_void : (h : Handled) → (IsVoid h → ⊥) → IsVoidWhere false h
not_void (Void outs) none = absurd (none tt)
not_void (Took t outs) none = refl

-- by the test
both : (test : Bool) (h : Handled) → (test ≡ true → IsVoidWhere true h) → (test ≡ false → IsVoid h → ⊥) → IsVoidWhere test h
both true h holds fails = holds refl
both false h holds fails = not_void h (fails refl)

or_false : (a b : Bool) → (a || b) ≡ false → (a ≡ false) × (b ≡ false)
or_false true b is = absurd (cc is)
or_false false b is = (refl, is)

not_false : (a : Bool) → not a ≡ false → a ≡ true
not_false true is = refl
not_false false is = absurd (cc is)

not_true : (a : Bool) → not a ≡ true → a ≡ false
not_true true is = absurd (cc is)
not_true false is = refl

-- a part that is as it was gives no answer
void_so : {S R : Type 0} (from : ℕ) (h : Head) (put : S → Parts) (say : R → Reply) (s : S) (rest : Served S R) (b : Bool) → b ≡ true →
    IsVoidWhere true (served from h put say (cond b (void s) rest))
void_so from h put say s rest true is = (refl, refl)
void_so from h put say s rest false is = absurd (cc is)

-- a call that gives no answer is void, and any other isn't
served_so : {S R : Type 0} (from : ℕ) (h : Head) (put : S → Parts) (say : R → Reply) (r : Served S R) (test : Bool) →
    test ≡ not (is_some r.reply) → IsVoidWhere test (served from h put say r)
served_so {S} {R} from h put say r test is = by r.reply is
  where
    by : (o : Option R) → test ≡ not (is_some o) → IsVoidWhere test (sends_answer from h (put r.part) r.outs (option_map say o))
    by None e = (e, refl)
    by (Some x) e = e

-- ---- naming

-- naming has the objects of a list of grants
all_there : (n : Naming) (grants : Grants) →
    list_all (λ x. is_some (at_number x n.objects)) (map (λ (g : ℕ × ℕ). g.0) grants) ≡ has_all grants n
all_there n [] = refl
all_there n (g ∷ gs) = λ i. is_some (at_number g.0 n.objects) && all_there n gs i

-- of a binding it is the one that was recorded or made last, or nothing is known
note_so : (x : ℕ) (top : Uid) (b : Binding) (i : ℕ) (o : Named) → is_another top b o ≡ not (is_some (note_named x top b i o).reply)
note_so x top b i o = by (is_binding b o.recorded)
  where
    answered : (m : Made) (e : Bool) → not e ≡ not (is_some (cond {A = Served Named RecordedReply} e (note_made x top i o m)
        (void o)).reply)
    answered m false = refl
    answered m true = made m.recorded
      where
        made : (r : Bool) → false ≡ not (is_some (cond {A = Served Named RecordedReply} r (reply o recorded.Yes)
            (record { part = lowered x top (in_use top m i o); outs = lower_lines x top o; reply = Some recorded.Yes })).reply)
        made true = refl
        made false = refl

    last : (q : Option Made) → not (is_made b q) ≡ not (is_some (note_other x top b i o q).reply)
    last None = refl
    last (Some m) = answered m (is_binding b (Some m.binding))

    by : (e : Bool) → not (e || is_made b (at_uid top o.made)) ≡
        not (is_some (cond {A = Served Named RecordedReply} e (reply o recorded.Yes) (note_other x top b i o (at_uid top o.made))).reply)
    by true = refl
    by false = last (at_uid top o.made)

-- ---- requests

module _ (n : ℕ) (d : Disk) (t : Parts) (from : ℕ) (h : Head) where
  abbrev At : Ask → Type 0
  At a = IsVoidWhere (ask_is_void (is_unnamed t.naming) d t h a) (serve n d t from h a)

  -- at another node a request to naming is void
  named : (xs : List ℕ) (more : Option Naming → Bool) (f : Naming → Handled) →
      ((o : Naming) → t.naming ≡ Some o → IsVoidWhere (is_unnamed (Some o) h.path xs || more (Some o)) (f o)) →
      IsVoidWhere (is_unnamed t.naming h.path xs || more t.naming) (if_naming f t.naming)
  named xs more f each = by t.naming refl
    where
      by : (o : Option Naming) → t.naming ≡ o → IsVoidWhere (is_unnamed o h.path xs || more o) (if_naming f o)
      by None is = (refl, refl)
      by (Some o) is = each o is

  -- where nothing else is asked
  named_alone : (xs : List ℕ) (f : Naming → Handled) → ((o : Naming) → t.naming ≡ Some o → IsVoidWhere (is_unnamed (Some o) h.path xs)
      (f o)) →
      IsVoidWhere (is_unnamed t.naming h.path xs) (if_naming f t.naming)
  named_alone xs f each = by t.naming refl
    where
      by : (o : Option Naming) → t.naming ≡ o → IsVoidWhere (is_unnamed o h.path xs) (if_naming f o)
      by None is = (refl, refl)
      by (Some o) is = each o is

  -- what naming serves is the request
  at_naming : (a : Ask) (f : Naming → Handled) (o : Naming) → t.naming ≡ Some o → serve n d t from h a ≡ if_naming f t.naming →
      (IsVoid (serve n d t from h a) → ⊥) → IsVoid (f o) → ⊥
  at_naming a f o is same none v = none (subst IsVoid (sym (same ∙ ap (if_naming f) is)) v)

  asked : (a : Ask) → At a
  asked (ask.Bind x include avoid) = named_alone (x ∷ []) f one
    where
      f : Naming → Handled
      f o = served from h (with_naming t) Reply.Bound (naming.bind h.path x include avoid d.names o)

      one : (o : Naming) → t.naming ≡ Some o → IsVoidWhere (is_unnamed (Some o) h.path (x ∷ [])) (f o)
      one o is = both (is_unnamed (Some o) h.path (x ∷ [])) (f o) (gone (is_over h.path o) (at_number x o.objects))
          (λ e. let p = or_false (is_over h.path o) (not (is_some (at_number x o.objects) && true)) e in
          at_naming (ask.Bind x include avoid) f o is refl (bind_answers n d t from h x include avoid o is p.0
          (and_parts (is_some (at_number x o.objects)) true (not_false (is_some (at_number x o.objects) && true) p.1)).0))
        where
          gone : (over : Bool) (q : Option Named) → (over || not (is_some q && true)) ≡ true →
              IsVoidWhere true (served from h (with_naming t) Reply.Bound (cond over (void o)
              (on_counted x (bind_named o.inc x h.path include avoid (listed_entry x d.names)) o q)))
          gone true q e = (refl, refl)
          gone false None e = (refl, refl)
          gone false (Some v) e = absurd (cc e)
  asked (ask.Load x) = by (holder_of (object x) d.store)
    where
      held : (s : Option ObjectState) → IsVoidWhere (not (is_some s)) (load_held from h t s)
      held None = (refl, refl)
      held (Some s) = refl

      by : (o : Option Uid) → IsVoidWhere (not (is_some o || is_some (held_at (object x) d.store))) (load_by x d.store from h t o)
      by (Some u) = refl
      by None = held (held_at (object x) d.store)
  asked (ask.Activate b st) = both (has_ended h.path t.server || binding_less b (active_binding st.uid.num t.server))
      (serve n d t from h (ask.Activate b st)) (λ e. void_so from h (with_server t) Reply.Activated t.server _ _ e)
      (λ e. let p = or_false (has_ended h.path t.server) (binding_less b (active_binding st.uid.num t.server)) e in
      activate_answers n d t from h b st p.0 (λ less. let no_way : true ≡ false = sym less ∙ p.1 in cc no_way))
  asked (ask.Record x b i g) = named (x ∷ []) (is_unknown h.path x b g) (λ o. served from h (with_naming t) Reply.Noted
      (naming.note h.path x b i g o)) one
    where
      one : (o : Naming) → t.naming ≡ Some o → IsVoidWhere (is_unnamed (Some o) h.path (x ∷ []) || is_unknown h.path x b g (Some o))
          (served from h (with_naming t) Reply.Noted (naming.note h.path x b i g o))
      one o is = served_so from h (with_naming t) Reply.Noted (naming.note h.path x b i g o)
          (is_unnamed (Some o) h.path (x ∷ []) || is_unknown h.path x b g (Some o))
          (by (is_over h.path o) (at_number x o.objects) (g == o.inc))
        where
          by : (over : Bool) (q : Option Named) (ours : Bool) → ((over || not (is_some q && true)) ||
              (ours && is_another_of (top_of h.path) b q)) ≡
              not (is_some (cond {A = Served Naming RecordedReply} (over || not (is_some q)) (void o)
              (cond ours (on_named x (note_named x (top_of h.path) b i) o q) (reply o (recorded.Changed (what.Inc g o.inc))))).reply)
          by true q ours = refl
          by false None ours = refl
          by false (Some v) true = note_so x (top_of h.path) b i v
          by false (Some v) false = refl
  asked (ask.Invoke x b i ends op) = both (has_ended h.path t.server || is_below h.req (at_uid (actor h.path) t.server.kept))
      (serve n d t from h (ask.Invoke x b i ends op)) (λ e. void_so from h (with_server t) Reply.Invoked t.server _ _ e)
      (λ e. let p = or_false (has_ended h.path t.server) (is_below h.req (at_uid (actor h.path) t.server.kept)) e in
      invoke_answers n d t from h x b i ends op p.0 p.1)
  asked (ask.Vote i ties ends) = both (has_ended h.path t.server) (serve n d t from h (ask.Vote i ties ends))
      (λ e. void_so from h (with_server t) Reply.Voted t.server _ _ e) (λ e. vote_answers n d t from h i ties ends e)
  asked (ask.Prepare states) = by (is_prepared (actor h.path) d.store)
    where
      new : (a : Prep) → IsVoidWhere (is_already a) (prepare_by n states from h t a)
      new Ready = refl
      new (Already u) = (refl, refl)
      new (Old u v) = refl
      new (InDoubt u holder) = refl

      by : (b : Bool) → IsVoidWhere (not b && is_already (prepare_answer (actor h.path) states d.store))
          (cond b (sends_answer from h t [] (Some (Reply.Prepared prepared.Yes)))
          (prepare_by n states from h t (prepare_answer (actor h.path) states d.store)))
      by true = refl
      by false = new (prepare_answer (actor h.path) states d.store)
  asked (ask.Confirm grants excluded included) = named_alone (map (λ (g : ℕ × ℕ). g.0) grants) f one
    where
      f : Naming → Handled
      f o = served from h (with_naming t) Reply.Confirmed (confirm h.path grants excluded included d.names o)

      one : (o : Naming) → t.naming ≡ Some o → IsVoidWhere (is_unnamed (Some o) h.path (map (λ (g : ℕ × ℕ). g.0) grants)) (f o)
      one o is = subst (λ b. IsVoidWhere (is_over h.path o || not b) (f o)) (sym (all_there o grants))
          (both (is_over h.path o || not (has_all grants o)) (f o) (λ e. void_so from h (with_naming t) Reply.Confirmed o _ _ e)
          (λ e. let p = or_false (is_over h.path o) (not (has_all grants o)) e in
          at_naming (ask.Confirm grants excluded included) f o is refl
          (confirm_answers n d t from h grants excluded included o is p.0 (not_false (has_all grants o) p.1))))

-- ---- answers

-- the request for which a commit waits, of those that it waits with
any_left : (m : Machine) (from : ℕ) (r : Reply) (ns : List ℕ) → list_any (is_to from r)
    (map {A = ℕ} {B = ℕ × Ask} (λ n. (n, ask_of m n)) ns) ≡
    ((reply_kind r == ask_kind (ask_of m from)) && has ns from)
any_left m from r [] = none (reply_kind r == ask_kind (ask_of m from))
  where
    none : (b : Bool) → false ≡ (b && false)
    none true = refl
    none false = refl
any_left m from r (n ∷ ns) =
    (λ i. ((n == from) && (reply_kind r == kind_same m i)) || any_left m from r ns i)
    ∙ apart (n == from) (reply_kind r == ask_kind (ask_of m from)) (has ns from)
  where
    kind_same : (m : Machine) → ask_kind (ask_of m n) ≡ ask_kind (ask_of m from)
    kind_same (Voting p left) = refl
    kind_same (Preparing p left) = refl
    kind_same (Confirming p) = refl

    apart : (e k o : Bool) → ((e && k) || (k && o)) ≡ (k && (e || o))
    apart true true o = refl
    apart true false o = refl
    apart false true o = refl
    apart false false o = refl

-- an answer is taken exactly where an action awaits it
pub heard_so : (from : ℕ) (a : Asked) (r : Reply) (intents : List (Uid × Intent)) (c : Coord) → awaits from a r c ≡ is_some
    (heard from a r intents c).reply
heard_so from a r intents c = by (doing_of a.act c)
  where
    taken_if : (b : Bool) (d : Did Coord) → b ≡ is_some (cond {A = Served Coord (Unit {0})} b (heard_by d) (heard_none c)).reply
    taken_if true d = refl
    taken_if false d = refl

    none : (b : Bool) → (b && false) ≡ false
    none true = refl
    none false = refl

    turned : (req kind node : Bool) → (req && ((node && kind) || false)) ≡ (req && (kind && node))
    turned true true true = refl
    turned true true false = refl
    turned true false true = refl
    turned true false false = refl
    turned false kind node = refl

    now : (n : Now) → awaits_now from a r n ≡ is_some (heard_now from a r intents c n).reply
    now Idle = none (0 == a.req)
    now (Calling s) = turned (s.req == a.req) (reply_kind r == ask_kind (next_ask [] s)) (next_node s == from) ∙ taken_if
        (waits_for_call from a r s) _
    now (Committing m) = (λ i. ((plan_of m).req == a.req) && any_left m from r (left_of m) i) ∙ taken_if (waits_for_commit from a r m) _

    by : (o : Option Doing) → awaits_doing from a r o ≡ is_some (heard_doing from a r intents c o).reply
    by None = refl
    by (Some d) = now d.now

-- an acknowledgement is taken exactly where it is awaited
acked_so : (from : ℕ) (u : Uid) (intents : List (Uid × Intent)) (c : Coord) → awaits_ack from u c ≡ is_some (acked from u intents c).reply
acked_so from u intents c = by (at_uid u c.telling)
  where
    left : (i : Intent) (ns : List ℕ) → true ≡ is_some (acked_left u i intents c ns).reply
    left i [] = refl
    left i (n ∷ ns) = refl

    listed : (i : Intent) (b : Bool) → b ≡ is_some (cond {A = Served Coord (Unit {0})} b
        (acked_left u i intents c (without_number from i.nodes))
        (record { part = c; outs = []; reply = None })).reply
    listed i true = left i (without_number from i.nodes)
    listed i false = refl

    by : (o : Option Intent) → lists_node from o ≡ is_some (acked_by from u intents c o).reply
    by None = refl
    by (Some i) = listed i (has i.nodes from)

-- what the coordinator doesn't take is void
coord_so : (t : Parts) (r : Served Coord (Unit {0})) (b : Bool) → b ≡ is_some r.reply → IsVoidWhere (not b) (coord_heard t r)
coord_so t r b is = by r.reply is
  where
    by : (o : Option (Unit {0})) → b ≡ is_some o → IsVoidWhere (not b) (by_reply (with_coord t r.part) r.outs o)
    by None e = ((λ i. not (e i)), refl)
    by (Some u) e = λ i. not (e i)

-- ---- any message

module _ (n : ℕ) (d : Disk) (t : Parts) (from : ℕ) where
  other : (m : Message) → asks m ≡ None → answers m ≡ None → IsVoidWhere (other_is_void from t m) (handle_other n d t from m)
  other (message.Told m) a b = by (last_end m.ends)
    where
      by : (o : Option (Uid × End)) → IsVoidWhere false (handle_ends n d t from m.ack m.ends o)
      by None = refl
      by (Some e) = refl
  other (message.Acked m) a b = coord_so t (acked from m.act d.intents t.coord) (awaits_ack from m.act t.coord)
      (acked_so from m.act d.intents t.coord)
  other (message.Query m) a b = refl
  other (message.Hello m) a b = refl
  other (message.Bind m) a b = absurd (cc a)
  other (message.Load m) a b = absurd (cc a)
  other (message.Activate m) a b = absurd (cc a)
  other (message.RecordMsg m) a b = absurd (cc a)
  other (message.Invoke m) a b = absurd (cc a)
  other (message.Vote m) a b = absurd (cc a)
  other (message.Prepare m) a b = absurd (cc a)
  other (message.Confirm m) a b = absurd (cc a)
  other (message.Bound m) a b = absurd (cc b)
  other (message.Loaded m) a b = absurd (cc b)
  other (message.Activated m) a b = absurd (cc b)
  other (message.Recorded m) a b = absurd (cc b)
  other (message.Invoked m) a b = absurd (cc b)
  other (message.Voted m) a b = absurd (cc b)
  other (message.Prepared m) a b = absurd (cc b)
  other (message.Confirmed m) a b = absurd (cc b)

  pub handled_exactly : (m : Message) → IsVoidWhere (is_void d t from m) (handle n d t from m)
  handled_exactly m = by (asks m) refl
    where
      answered : (o : Option (Asked × Reply)) → asks m ≡ None → answers m ≡ o → IsVoidWhere (answer_is_void from t m o)
          (handle_answer n d t from m o)
      answered None none is = other m none is
      answered (Some a) none is = coord_so t (heard from a.0 a.1 d.intents t.coord) (awaits from a.0 a.1 t.coord)
          (heard_so from a.0 a.1 d.intents t.coord)

      by : (o : Option (Head × Ask)) → asks m ≡ o → IsVoidWhere (is_void_by (is_unnamed t.naming) d t from m o) (handle_ask n d t from m o)
      by None is = answered (answers m) is refl
      by (Some a) is = asked n d t from a.0 a.1

pub handlers_exactly : HandlersAreVoidExactly
handlers_exactly n d t from m = handled_exactly n d t from m
