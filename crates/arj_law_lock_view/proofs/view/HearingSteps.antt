-- A whole message goes, as far as the node's naming does.
use Rattle.arj_law_parts.proofs.Words
use Words.{Contains, ◌≡◌, ◌⊎◌, ◌∙◌, ◌&&◌, ◌++◌, ℕ, List, [], ◌∷◌, Bool, true, false, cond, Option, Some, None, refl, sym, ap, subst, inl}
use Words.{inr, ⊎_elim, ⊤, option_map, list_all, in_from, in_to, Ask, Asked, End, Head, Message, ObjectState, Uid, asks, object, Reply}
use Words.{actor, answers, asked_by, last_end, response, top_of, heard, confirm, Coord, Already, Disk, Do, Effect, InDoubt, Old, Prep}
use Words.{Ready, Say, Send, Served, held_at, holder_of, is_prepared, prepare_answer, acked, Naming, Handled, Parts, Void, by_reply}
use Words.{coord_heard, handle, handle_answer, handle_ask, handle_ends, handle_other, if_naming, is_meant, load_by, load_held, naming_hello}
use Words.{naming_told, prepare_by, sends_answer, serve, served, taken, with_coord, with_naming, with_server, AreAll, is_naming_effect}
use Words.{bind_own, confirm_own, note_own}
use Words.list
use Words.ask
use Words.confirmed
use Words.message
use Words.prepared
use Words.naming
use Words.server
use Rattle.arj_law_lock_view.proofs.Terms
use Terms.{Act, stay, State, outs_of, Goes, NobodyConfirmed, OnlyNaming, ShowsBound, ShowsNoted, AreConfirmsAnswered, AreRepliesShown}
use Terms.{IsEndShown, IsShownBy, SeesNamingIn, ShowsNamingReply, Site, is_for_naming, naming_after, SeesNaming, ShowsConfirmed, View}
use Rattle.arj_law_lock_view.proofs.{view.ConfirmSteps.confirms_are_taken, view.HandledSteps.sent_last, view.RunSteps.goes_to}
use Rattle.arj_law_lock_view.proofs.{view.ToldNamingSteps.ends_are_told}
use Rattle.arj_law_lock_view.proofs.view.NamingSteps.{binds_are_taken, hellos_are_taken, naming_itself, notes_are_taken}
use Rattle.arj_law_lock_view.specs.view.Hearing.{IsAnsweredYes, MessagesAreHeard}

-- of the effects of a call of naming none is sent
none_sent : (outs : List Effect) → AreAll is_naming_effect outs → (to : ℕ) (z : Message) → list.In (Send to z) outs → ⊥
none_sent [] all to z i = i
none_sent (e ∷ es) all to z i = by e (none_sent es) all i
  where
    second : (q : Bool) → (q && list_all is_naming_effect es) ≡ true → list_all is_naming_effect es ≡ true
    second true h = h
    second false h = absurd (cc h)

    by : (f : Effect) → (AreAll is_naming_effect es → (k : ℕ) (w : Message) → list.In (Send k w) es → ⊥) →
        (is_naming_effect f && list_all is_naming_effect es) ≡ true → (f ≡ Send to z) ⊎ list.In (Send to z) es → ⊥
    by (Say b) rest own (inl is) = cc is
    by (Say b) rest own (inr j) = rest (second (is_naming_effect (Say b)) own) to z j
    by (Send k w) rest own i = cc own
    by (Do w) rest own (inl is) = cc is
    by (Do w) rest own (inr j) = rest (second (is_naming_effect (Do w)) own) to z j

module _ (a : Site) (t : Parts) (from : ℕ) (m : Message) (S : State) (sees : SeesNamingIn a.view S t.naming) where
  abbrev v : View
  v = a.view

  abbrev d : Disk
  d = a.disk

  abbrev k : ℕ
  k = v.node

  -- naming's part of what was handled
  abbrev Takes : Option (Head × Ask) → Handled → Type 0
  Takes q r = Goes S (λ T. SeesNamingIn v T (naming_after t r) × OnlyNaming S T × AreRepliesShown v T (outs_of r) q
      × AreConfirmsAnswered v from S T (outs_of r) q)

  -- what leaves naming as it was, where the request isn't for it
  abbrev Leaves : Option (Head × Ask) → Type 0
  Leaves None = ⊤
  Leaves (Some q) = is_for_naming q.1 ≡ false

  no_answer : (q : Option (Head × Ask)) → Leaves q → (T : State) (outs : List Effect) → AreRepliesShown v T outs q
  no_answer None other T outs = tt
  no_answer (Some q) other T outs = λ mine. absurd (cc (sym mine ∙ other))

  left : (q : Option (Head × Ask)) → Leaves q → (r : Handled) → naming_after t r ≡ t.naming → Takes q r
  left q other r same_one = record {
    state = S;
    run = stay;
    holds = (
      subst (λ (z : Option Naming). SeesNamingIn v S z) (sym same_one) sees,
      naming_itself S,
      no_answer q other S (outs_of r),
      λ b old. inl old,
    );
  }

  -- a void message sends nothing
  void_goes : (q : Option (Head × Ask)) → Takes q (Void [])
  void_goes q = record { state = S; run = stay; holds = (sees, naming_itself S, nothing q, λ b old. inl old) }
    where
      nothing : (q : Option (Head × Ask)) → AreRepliesShown v S [] q
      nothing None = tt
      nothing (Some q) = λ mine to z i. absurd (in_from (Send to z) [] i)

  answered_same : (h : Head) (w : Parts) (outs : List Effect) (o : Option Reply) → w.naming ≡ t.naming →
      naming_after t (sends_answer from h w outs o) ≡ t.naming
  answered_same h w outs None is = refl
  answered_same h w outs (Some r) is = is

  sees_at : (n : Naming) → t.naming ≡ Some n → SeesNaming v n S
  sees_at n is = subst (λ (o : Option Naming). SeesNamingIn v S o) is sees

  -- ---- requests to naming

  -- who is confirmed anew is the top of a Confirm with a grant on the object, and then the answer is Yes
  abbrev IsNewBy : Head → Ask → Option Reply → Act → Type 0
  IsNewBy h (ask.Confirm grants excluded included) o c =
      (c ≡ v.family.act (top_of h.path)) × (o ≡ Some (Reply.Confirmed confirmed.Yes)) × (g : ℕ) × Contains {X = ℕ × ℕ} grants (v.x, g)
  IsNewBy h _ o c = ⊥

  abbrev NewIn : Head → Ask → State → Option Reply → Type 0
  NewIn h q T o = (c : Act) → T.confirmed c ≡ true → (S.confirmed c ≡ true) ⊎ IsNewBy h q o c

  last_sent : (outs : List Effect) (e : Effect) → list.In e (outs ++ e ∷ [])
  last_sent [] e = inl refl
  last_sent (f ∷ outs) e = inr (last_sent outs e)

  -- so it is where that answer goes out
  new_answered : (h : Head) (q : Ask) (outs : List Effect) (r : Reply) (c : Act) → IsNewBy h q (Some r) c →
      IsAnsweredYes v from (Some (h, q)) (outs ++ Send from (response (asked_by h) r) ∷ []) c
  new_answered h (ask.Confirm grants excluded included) outs r c new = record {
    head = h;
    grants = grants;
    excluded = excluded;
    included = included;
    is = refl;
    top = new.0;
    grant = new.2;
    given = new.3;
    yes = in_to (Send from (response (asked_by h) (Reply.Confirmed confirmed.Yes))) (outs ++ Send from (response (asked_by h) r) ∷ [])
        (subst (λ (z : Reply). list.In (Send from (response (asked_by h) z)) (outs ++ Send from (response (asked_by h) r) ∷ [])) (one new.1)
        (last_sent outs (Send from (response (asked_by h) r))));
  }
    where
      one : ◌≡◌ {A = Option Reply} (Some r) (Some (Reply.Confirmed confirmed.Yes)) → r ≡ Reply.Confirmed confirmed.Yes
      one is = cc is
  new_answered h (ask.Bind y include avoid) outs r c new = absurd new
  new_answered h (ask.Record y b i g) outs r c new = absurd new
  new_answered h (ask.Load y) outs r c new = absurd new
  new_answered h (ask.Activate b st) outs r c new = absurd new
  new_answered h (ask.Invoke y b i ends o) outs r c new = absurd new
  new_answered h (ask.Vote i ties ends) outs r c new = absurd new
  new_answered h (ask.Prepare states) outs r c new = absurd new

  -- nobody is
  none_new : (h : Head) (q : Ask) (T : State) (o : Option Reply) → NobodyConfirmed S T → NewIn h q T o
  none_new h q T o same c k = inl (sym (ap (λ (z : Act → Bool). z c) same) ∙ k)

  -- naming answers: its answer, and nothing else, goes out
  served_goes : {R : Type 0} (h : Head) (q : Ask) (say : R → Reply) (r : Served Naming R) → AreAll is_naming_effect r.outs
      → Goes S (λ T. SeesNaming v r.part T × OnlyNaming S T × ((b : R) → r.reply ≡ Some b → ShowsNamingReply v h q T (say b))
      × NewIn h q T (option_map say r.reply))
      → Takes (Some (h, q)) (served from h (with_naming t) say r)
  served_goes {R} h q say r own g = by r.reply refl
    where
      by : (o : Option R) → r.reply ≡ o → Takes (Some (h, q)) (sends_answer from h (with_naming t r.part) r.outs (option_map say o))
      by None is = void_goes (Some (h, q))
      by (Some b) is = goes_to g (λ T g. (
        g.0,
        g.1,
        (λ mine to z i. ⊎_elim
            (λ (j : list.In (Send to z) r.outs). absurd (none_sent r.outs own to z j))
            (λ (last : z ≡ response (asked_by h) (say b)). (say b, last, g.2 b is))
            (sent_last r.outs from (response (asked_by h) (say b)) to z
            (in_from (Send to z) (r.outs ++ Send from (response (asked_by h) (say b)) ∷ []) i))),
        (λ c k. ⊎_elim (λ old. inl old) (λ new. inr
            (new_answered h q r.outs (say b) c (subst (λ (o : Option Reply). IsNewBy h q o c) (ap (option_map say) is) new))) (g.3 c k)),
      ))

  abbrev IsShownTo : Head → Ask → Option Naming → Type 0
  IsShownTo h q o = IsShownBy a S m (Some (h, q)) o

  asked_goes : (h : Head) (q : Ask) → IsShownTo h q t.naming → Takes (Some (h, q)) (serve k d t from h q)
  asked_goes h (ask.Bind y include avoid) shown = by t.naming refl shown
    where
      by : (o : Option Naming) → t.naming ≡ o → IsShownTo h (ask.Bind y include avoid) o → Takes (Some (h, ask.Bind y include avoid))
          (if_naming (λ n. served from h (with_naming t) Reply.Bound (naming.bind h.path y include avoid d.names n)) o)
      by None is s = void_goes (Some (h, ask.Bind y include avoid))
      by (Some n) is s = let r = naming.bind h.path y include avoid d.names n in
          served_goes h (ask.Bind y include avoid) Reply.Bound r (bind_own h.path y include avoid d.names n)
          (goes_to (binds_are_taken v a.owner h.path y include avoid d.names n S s.0 s.1 (sees_at n is)) (λ T g. (
            g.0,
            g.1,
            (λ b said about. subst (ShowsBound v.family.act (top_of h.path) avoid T) said (g.3 about)),
            none_new h (ask.Bind y include avoid) T (option_map Reply.Bound r.reply) g.2,
          )))
  asked_goes h (ask.Record y b i g) shown = by t.naming refl shown
    where
      by : (o : Option Naming) → t.naming ≡ o → IsShownTo h (ask.Record y b i g) o →
          Takes (Some (h, ask.Record y b i g)) (if_naming (λ n. served from h (with_naming t) Reply.Noted (naming.note h.path y b i g n)) o)
      by None is s = void_goes (Some (h, ask.Record y b i g))
      by (Some n) is s = let r = naming.note h.path y b i g n in
          served_goes h (ask.Record y b i g) Reply.Noted r (note_own h.path y b i g n)
          (goes_to (notes_are_taken v a.owner h.path y b i g n S s.0 (λ about. (s.1 about).1) (sees_at n is)) (λ T k. (
            k.0,
            k.1,
            (λ c said about. subst (ShowsNoted b T) said (k.3 about)),
            none_new h (ask.Record y b i g) T (option_map Reply.Noted r.reply) k.2,
          )))
  asked_goes h (ask.Confirm grants excluded included) shown = by t.naming refl shown
    where
      by : (o : Option Naming) → t.naming ≡ o → IsShownTo h (ask.Confirm grants excluded included) o →
          Takes (Some (h, ask.Confirm grants excluded included))
          (if_naming (λ n. served from h (with_naming t) Reply.Confirmed (confirm h.path grants excluded included d.names n)) o)
      by None is s = void_goes (Some (h, ask.Confirm grants excluded included))
      by (Some n) is s = let r = confirm h.path grants excluded included d.names n in
          served_goes h (ask.Confirm grants excluded included) Reply.Confirmed r (confirm_own h.path grants excluded included d.names n)
          (goes_to (confirms_are_taken v a.owner h.path grants excluded included d.names n S s.0 s.1 (sees_at n is)) (λ T g. (
            g.0,
            g.1,
            (λ c said. subst (ShowsConfirmed v (top_of h.path) grants T) said g.3),
            (λ c k. ⊎_elim (λ old. inl old) (λ new. inr (new.0, ap (option_map Reply.Confirmed) new.1, new.2, new.3)) (g.2 c k)),
          )))
  asked_goes h (ask.Load x) shown = left (Some (h, ask.Load x)) refl (serve k d t from h (ask.Load x)) (load (holder_of (object x) d.store))
    where
      held : (o : Option ObjectState) → naming_after t (load_held from h t o) ≡ t.naming
      held None = refl
      held (Some o) = refl

      load : (o : Option Uid) → naming_after t (load_by x d.store from h t o) ≡ t.naming
      load (Some u) = refl
      load None = held (held_at (object x) d.store)
  asked_goes h (ask.Activate b st) shown = left (Some (h, ask.Activate b st)) refl (serve k d t from h (ask.Activate b st))
      (let r = server.activate k h.path b st t.server in
      answered_same h (with_server t r.part) r.outs (option_map Reply.Activated r.reply) refl)
  asked_goes h (ask.Invoke y b i ends o) shown =
      left (Some (h, ask.Invoke y b i ends o)) refl (serve k d t from h (ask.Invoke y b i ends o))
      (let r = server.invoke k h y b i ends o t.server in
      answered_same h (with_server t r.part) r.outs (option_map Reply.Invoked r.reply) refl)
  asked_goes h (ask.Vote i ties ends) shown = left (Some (h, ask.Vote i ties ends)) refl (serve k d t from h (ask.Vote i ties ends))
      (let r = server.vote k h.path i ties ends t.server in
      answered_same h (with_server t r.part) r.outs (option_map Reply.Voted r.reply) refl)
  asked_goes h (ask.Prepare states) shown =
      left (Some (h, ask.Prepare states)) refl (serve k d t from h (ask.Prepare states)) (by (is_prepared (actor h.path) d.store))
    where
      new : (p : Prep) → naming_after t (prepare_by k states from h t p) ≡ t.naming
      new Ready = refl
      new (Already u) = refl
      new (Old u w) = refl
      new (InDoubt u holder) = refl

      by : (b : Bool) → naming_after t (cond b (sends_answer from h t [] (Some (Reply.Prepared prepared.Yes)))
          (prepare_by k states from h t (prepare_answer (actor h.path) states d.store))) ≡ t.naming
      by true = refl
      by false = new (prepare_answer (actor h.path) states d.store)

  -- ---- other messages

  coord_same : (r : Served Coord (Unit {0})) → naming_after t (coord_heard t r) ≡ t.naming
  coord_same r = by r.reply
    where
      by : (o : Option (Unit {0})) → naming_after t (by_reply (with_coord t r.part) r.outs o) ≡ t.naming
      by None = refl
      by (Some u) = refl

  -- ends, of which naming acts on the last one
  told_goes : (ack : Bool) (ends : List (Uid × End)) (e : Option (Uid × End)) → ((n : Naming) → t.naming ≡ Some n → IsEndShown a n S e) →
      Takes None (handle_ends k d t from ack ends e)
  told_goes ack ends None shown = left None tt (handle_ends k d t from ack ends None) refl
  told_goes ack ends (Some e) shown =
      goes_to (by t.naming refl) (λ T g. (g.0, g.1, tt, λ c k. inl (sym (ap (λ (z : Act → Bool). z c) g.2) ∙ k)))
    where
      by : (o : Option Naming) → t.naming ≡ o →
          Goes S (λ T. SeesNamingIn v T (let r = naming_told e.0 e.1 d.names o in r.part) × OnlyNaming S T × NobodyConfirmed S T)
      by None is = record { state = S; run = stay; holds = (tt, naming_itself S, refl) }
      by (Some n) is = ends_are_told v a.owner e.0 e.1 d.names n S (shown n is) (sees_at n is)

  hello_goes : (node inc : ℕ) (o : Option Naming) → SeesNamingIn v S o → SeesNamingIn v S (naming_hello node inc o)
  hello_goes node inc None s = tt
  hello_goes node inc (Some n) s = hellos_are_taken v node inc n S s

  other_goes : (q : Message) → IsShownBy a S q None t.naming → Takes None (handle_other k d t from q)
  other_goes (message.Told q) shown =
      told_goes q.ack q.ends (last_end q.ends) (λ n is. subst (λ (o : Option Naming). IsShownBy a S (message.Told q) None o) is shown)
  other_goes (message.Hello q) shown =
      record { state = S; run = stay; holds = (hello_goes q.node q.inc t.naming sees, naming_itself S, tt, λ c k. inl k) }
  other_goes (message.Acked q) shown =
      left None tt (handle_other k d t from (message.Acked q)) (coord_same (acked from q.act d.intents t.coord))
  other_goes (message.Query q) shown = left None tt (handle_other k d t from (message.Query q)) refl
  other_goes (message.Bind q) shown = left None tt (Void []) refl
  other_goes (message.Bound q) shown = left None tt (Void []) refl
  other_goes (message.Load q) shown = left None tt (Void []) refl
  other_goes (message.Loaded q) shown = left None tt (Void []) refl
  other_goes (message.Activate q) shown = left None tt (Void []) refl
  other_goes (message.Activated q) shown = left None tt (Void []) refl
  other_goes (message.RecordMsg q) shown = left None tt (Void []) refl
  other_goes (message.Recorded q) shown = left None tt (Void []) refl
  other_goes (message.Invoke q) shown = left None tt (Void []) refl
  other_goes (message.Invoked q) shown = left None tt (Void []) refl
  other_goes (message.Vote q) shown = left None tt (Void []) refl
  other_goes (message.Voted q) shown = left None tt (Void []) refl
  other_goes (message.Prepare q) shown = left None tt (Void []) refl
  other_goes (message.Prepared q) shown = left None tt (Void []) refl
  other_goes (message.Confirm q) shown = left None tt (Void []) refl
  other_goes (message.Confirmed q) shown = left None tt (Void []) refl

  handled : IsShownBy a S m (asks m) t.naming → Takes (asks m) (handle k d t from m)
  handled shown = by (asks m) shown
    where
      answer : (o : Option (Asked × Reply)) → IsShownBy a S m None t.naming → Takes None (handle_answer k d t from m o)
      answer None s = other_goes m s
      answer (Some q) s = left None tt (handle_answer k d t from m (Some q)) (coord_same (heard from q.0 q.1 d.intents t.coord))

      by : (o : Option (Head × Ask)) → IsShownBy a S m o t.naming → Takes o (handle_ask k d t from m o)
      by None s = answer (answers m) s
      by (Some q) s = asked_goes q.0 q.1 s

  pub message_heard : IsShownBy a S m (asks m) t.naming → Takes (asks m) (taken k d t from m)
  message_heard shown = by (is_meant t m)
    where
      by : (b : Bool) → Takes (asks m) (cond b (handle k d t from m) (Void []))
      by true = handled shown
      by false = void_goes (asks m)

pub messages_are_heard : MessagesAreHeard
messages_are_heard a t from m S shown sees = message_heard a t from m S sees shown
