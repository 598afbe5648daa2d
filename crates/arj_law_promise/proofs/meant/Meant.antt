-- What comes to a node can be meant, or nobody awaits it, in every run; so it is void by the table.
use Rattle.arj_law_parts.proofs.Words
use Words.{◌≡◌, ◌⊎◌, ◌∙◌, ◌==◌, ℕ, List, [], ◌∷◌, ◌++◌, Bool, true, false, cond, not, Option, Some, None, refl, sym, ap, subst, inl, inr}
use Words.{⊎_elim, map, ⊤, is_some}
use Words.{◌&&◌, ◌||◌, list_all, AllByRecursion, and_parts, eqb-true, Ask, Binding, Head, Header, Message, ObjectState, Path, Uid, asks}
use Words.{own_class, object}
use Words.{Reply, answers, Steps, Calling, Committing, Coord, Doing, Idle, Now, doing_of, Disk, Effect, Say, Took, Void, Handled, Parts}
use Words.{handle, is_meant}
use Words.{answer_is_meant, asked_is_meant, ask_is_meant, reply_is_meant, is_loaded_for, is_loaded_in, coord_heard, handle_ask}
use Words.{handle_answer, by_reply}
use Words.{with_coord, heard, waits_for_call, Naming, is_over, at_number, class_at, Node, Step, step, at_place, Server, copy_has_op, Post}
use Words.{Seen, World, Frame}
use Words.{taken, IfSome, step_of, step_unless, handled_step, whole, see, world_by, deliver, tick_up, steps, is_up_at, counted}
use Words.ask
use Words.body
use Words.loaded
use Words.input
use Words.words
use Rattle.arj_law_promise.proofs.Terms
use Terms.{In, up, node_here, HasObject, HeaderFits, first_values, Holds, moves_asked}
use Rattle.arj_law_disk_view.specs.running.Entries.{KnowsEntries}
use Rattle.arj_law_parts.proofs.moves.Happens.{arms_hold, deliver_holds, steps_hold}
use Rattle.arj_law_parts.specs.moves.Keeps.{IsSent}
use Rattle.arj_law_promise.proofs.meant
use meant.Requests.{meant_keep}
use meant.Void.{handled_exactly, heard_so}
use Rattle.arj_law_promise.proofs.waiting
use waiting.Gives.{answer_meant}
use waiting.Known.{class_is, copy_fits, object_is, op_fits}
use Rattle.arj_law_promise.specs.meant.Meant
use Meant.{AskFits, FramesAreVoidExactly, IsMeantAt, IsUnawaited, IsVoidExactly, KnownAreMeant, MeantAreKnown, Part, Delivers, Ticks}
use Meant.{RunsAreVoidExactly, RunsMean, parts_done}
use Rattle.arj_law_promise.specs.meant.Void
use Void.{IsVoidWhere, SaysGot, SaysVoid, SaysVoidWhere, answer_is_void, ask_is_void, awaits, frame_is_void, is_over_there, is_unnamed}
use Void.{is_unnamed_by, is_void, is_void_by, is_void_in}
use Rattle.arj_law_runs.proofs.addresses.Lists.{all_placed}
use Rattle.arj_law_runs.proofs.resting.Serving.{asks_no_answer}
use Rattle.arj_protocol.specs.Step.{refusal_at}

if_meant : (b : Bool) (h : Handled) → b ≡ true → cond b h (Void []) ≡ h
if_meant true h is = refl
if_meant false h is = absurd (cc is)

if_void : (b : Bool) (h : Handled) → h ≡ Void [] → cond b h (Void []) ≡ h
if_void true h is = refl
if_void false h is = sym is

all_tests : (over a b c : Bool) → a ≡ true → b ≡ true → c ≡ true → (over || not a) ≡ (not b || (over || not c))
all_tests over true true true x y z = refl
all_tests over false b c x y z = absurd (cc x)
all_tests over true false c x y z = absurd (cc y)
all_tests over true true false x y z = absurd (cc z)

elsewhere : (b rest : Bool) → b ≡ false → true ≡ (not b || rest)
elsewhere false rest is = refl
elsewhere true rest is = absurd (cc is)

-- ---- what comes

module _ (hd : Header) (form : HeaderFits hd) (k : ℕ) (d : Disk) (t : Parts) (M : Seen) (known : MeantAreKnown hd (up k d t M)) (p : Post)
    (there : In p M.sent) (to : p.to ≡ k) where
  abbrev here : Node
  here = record { number = k; disk = d; live = Some t }

  found : (let W = up k d t M in W.nodes k) ≡ Some here
  found = node_here M k here

  -- a request
  ask_meant : (h : Head) (a : Ask) → AskFits hd a → ask_is_meant t.server a ≡ true
  ask_meant h (ask.Bind x include avoid) f = refl
  ask_meant h (ask.Load x) f = refl
  ask_meant h (ask.Activate b st) f = object_is hd form st.uid.num f.0 st.uid f.1
  ask_meant h (ask.Record x b i g) f = refl
  ask_meant h (ask.Invoke x b i ends op) f = copy_fits op x (own_class (first_values hd x)) t.server
      (let s = (known.0.1.0.0.0.1 x).0 k here found in let z = s.1 in z.server)
      (op_fits (own_class (first_values hd x)) op (class_at x hd) (class_is hd form x f.0) f.1)
  ask_meant h (ask.Vote i ties ends) f = refl
  ask_meant h (ask.Prepare states) f = f.0
  ask_meant h (ask.Confirm grants ex inc) f = f.0

  fits : (h : Head) (a : Ask) → asks p.message ≡ Some (h, a) → AskFits hd a
  fits h a is = known.1 p h a there is

  -- an answer
  reply_meant : (a : words.Asked) (r : Reply) → answers p.message ≡ Some (a, r) → (reply_is_meant t.coord a r ≡ true) ⊎
      (awaits p.from a r t.coord ≡ false)
  reply_meant a r is = by (doing_of a.act t.coord) refl
    where
      plain : (z : Reply) → r ≡ z → doing_of a.act t.coord ≡ None → reply_is_meant t.coord a z ≡ true
      plain (Reply.Loaded (loaded.State st)) same none = ap (is_loaded_for st) none
      plain (Reply.Loaded (loaded.InDoubt h)) same none = refl
      plain (Reply.Bound z) same none = refl
      plain (Reply.Activated z) same none = refl
      plain (Reply.Noted z) same none = refl
      plain (Reply.Invoked z) same none = refl
      plain (Reply.Voted z) same none = refl
      plain (Reply.Prepared z) same none = refl
      plain (Reply.Confirmed z) same none = refl

      free : (q : Doing) (z : Reply) → doing_of a.act t.coord ≡ Some q → ((st : ObjectState) → is_loaded_in st q.now ≡ true) →
          reply_is_meant t.coord a z ≡ true
      free q (Reply.Loaded (loaded.State st)) does each = ap (is_loaded_for st) does ∙ each st
      free q (Reply.Loaded (loaded.InDoubt h)) does each = refl
      free q (Reply.Bound z) does each = refl
      free q (Reply.Activated z) does each = refl
      free q (Reply.Noted z) does each = refl
      free q (Reply.Invoked z) does each = refl
      free q (Reply.Voted z) does each = refl
      free q (Reply.Prepared z) does each = refl
      free q (Reply.Confirmed z) does each = refl

      call : (q : Doing) (s : Steps) → doing_of a.act t.coord ≡ Some q → q.now ≡ Calling s → (b : Bool) → waits_for_call p.from a r s ≡ b →
          (reply_is_meant t.coord a r ≡ true) ⊎ (awaits p.from a r t.coord ≡ false)
      call q s does now true waits = inl (answer_meant hd k d t M known.0 p a q s there to does now r is waits)
      call q s does now false off = inr (heard_so p.from a r d.intents t.coord
          ∙ (λ i. is_some (Words.heard_doing p.from a r d.intents t.coord (does i)).reply)
          ∙ (λ i. is_some (Words.heard_now p.from a r d.intents t.coord (now i)).reply)
          ∙ (λ i. is_some (cond {A = Words.Served Coord (Unit {0})} (off i) (Words.heard_by (Words.heard_call s r t.coord))
          (Words.heard_none t.coord)).reply))

      at : (q : Doing) → doing_of a.act t.coord ≡ Some q → (n : Now) → q.now ≡ n → (reply_is_meant t.coord a r ≡ true) ⊎
          (awaits p.from a r t.coord ≡ false)
      at q does Idle is = inl (free q r does (λ st. ap (is_loaded_in st) is))
      at q does (Committing m) is = inl (free q r does (λ st. ap (is_loaded_in st) is))
      at q does (Calling s) is = call q s does is (waits_for_call p.from a r s) refl

      by : (o : Option Doing) → doing_of a.act t.coord ≡ o → (reply_is_meant t.coord a r ≡ true) ⊎ (awaits p.from a r t.coord ≡ false)
      by None none = inl (plain r refl none)
      by (Some q) does = at q does q.now refl

  can_be_meant : (is_meant t p.message ≡ true) ⊎ IsUnawaited p.from t p.message
  can_be_meant = asked (asks p.message) refl
    where
      both : asked_is_meant t.server (asks p.message) ≡ true → answer_is_meant t.coord (answers p.message) ≡ true → is_meant t p.message ≡
          true
      both x y = λ i. x i && y i

      answered : asks p.message ≡ None → (o : Option (words.Asked × Reply)) → answers p.message ≡ o → (is_meant t p.message ≡ true) ⊎
          IsUnawaited p.from t p.message
      answered none None is = inl (both (ap (asked_is_meant t.server) none) (ap (answer_is_meant t.coord) is))
      answered none (Some a) is = ⊎_elim
          (λ yes. inl (both (ap (asked_is_meant t.server) none) (ap (answer_is_meant t.coord) is ∙ yes)))
          (λ no. inr (a.0, a.1, is, no)) (reply_meant a.0 a.1 is)

      asked : (o : Option (Head × Ask)) → asks p.message ≡ o → (is_meant t p.message ≡ true) ⊎ IsUnawaited p.from t p.message
      asked None none = answered none (answers p.message) refl
      asked (Some a) is = inl (both (ap (asked_is_meant t.server) is ∙ ask_meant a.0 a.1 (fits a.0 a.1 is))
          (ap (answer_is_meant t.coord) (asks_no_answer p.message a.0 a.1 is)))

  -- what nobody awaits is void, whatever is tested before
  unawaited : (a : words.Asked) (r : Reply) → answers p.message ≡ Some (a, r) → awaits p.from a r t.coord ≡ false → handle k d t p.from
      p.message ≡ Void []
  unawaited a r is off = (λ i. handle_ask k d t p.from p.message (none i)) ∙ (λ i. handle_answer k d t p.from p.message (is i))
      ∙ by (heard p.from a r d.intents t.coord).reply (sym (heard_so p.from a r d.intents t.coord) ∙ off)
    where
      none : asks p.message ≡ None
      none = by (asks p.message) refl
        where
          by : (o : Option (Head × Ask)) → asks p.message ≡ o → o ≡ None
          by None e = refl
          by (Some q) e = let no_way : ◌≡◌ {A = Option (words.Asked × Reply)} None (Some (a, r)) = sym (asks_no_answer p.message q.0 q.1 e)
              ∙ is in absurd (cc no_way)

      by : (o : Option (Unit {0})) → is_some o ≡ false → by_reply (with_coord t (heard p.from a r d.intents t.coord).part)
          (heard p.from a r d.intents t.coord).outs o ≡ Void []
      by None e = refl
      by (Some u) e = absurd (cc e)

  as_said : taken k d t p.from p.message ≡ handle k d t p.from p.message
  as_said = ⊎_elim (λ yes. if_meant (is_meant t p.message) (handle k d t p.from p.message) yes)
      (λ no. if_void (is_meant t p.message) (handle k d t p.from p.message) (unawaited no.0 no.1 no.2 no.3)) can_be_meant

  -- ---- by the header

  all_known : (xs : List ℕ) → AllByRecursion (λ x. HasObject hd x) xs → list_all (λ x. is_some (class_at x hd)) xs ≡ true
  all_known [] all = refl
  all_known (x ∷ xs) all = λ i. is_some (class_is hd form x all.0 i) && all_known xs all.1 i

  all_named : (o : Naming) → t.naming ≡ Some o → k ≡ 1 → (xs : List ℕ) → AllByRecursion (λ x. HasObject hd x) xs → list_all
      (λ x. is_some (at_number x o.objects)) xs ≡ true
  all_named o is one [] all = refl
  all_named o is one (x ∷ xs) all = λ i. at_one i && all_named o is one xs all.1 i
    where
      at_one : is_some (at_number x o.objects) ≡ true
      at_one = let w = known.0.0.1.1 x all.0 here (ap (λ i. (let W = up k d t M in W.nodes) i) (sym one) ∙ found) in
          let l = subst (λ n. KnowsEntries x n d.names) is (w.live t refl) in l.there

  -- naming serves these at node 1, until it is told of the end
  same_named : (q : Path) (xs : List ℕ) → AllByRecursion (λ x. HasObject hd x) xs → is_unnamed t.naming q xs ≡ is_unnamed_by hd k t.naming q
      xs
  same_named q xs all = by t.naming refl
    where
      place : is_some t.naming ≡ (k == 1)
      place = let e = known.0.0.0.0.0 in let n = e.2.nodes k here found in let l = n.live t refl in l.place

      by : (o : Option Naming) → t.naming ≡ o → is_unnamed o q xs ≡ is_unnamed_by hd k o q xs
      by None is = elsewhere (k == 1) (is_over_there q None || not (list_all (λ x. is_some (class_at x hd)) xs)) (sym place ∙ ap is_some is)
      by (Some o) is = all_tests (is_over q o) (list_all (λ x. is_some (at_number x o.objects)) xs) (k == 1)
          (list_all (λ x. is_some (class_at x hd)) xs) (all_named o is (eqb-true k 1 (sym place ∙ ap is_some is)) xs all)
          (sym place ∙ ap is_some is) (all_known xs all)

  ask_same : (h : Head) (a : Ask) → AskFits hd a → ask_is_void (is_unnamed t.naming) d t h a ≡ ask_is_void (is_unnamed_by hd k t.naming) d t
      h a
  ask_same h (ask.Bind x include avoid) f = same_named h.path (x ∷ []) (f, tt)
  ask_same h (ask.Load x) f = refl
  ask_same h (ask.Activate b st) f = refl
  ask_same h (ask.Record x b i g) f = λ j. same_named h.path (x ∷ []) (f, tt) j || Void.is_unknown h.path x b g t.naming
  ask_same h (ask.Invoke x b i ends op) f = refl
  ask_same h (ask.Vote i ties ends) f = refl
  ask_same h (ask.Prepare states) f = refl
  ask_same h (ask.Confirm grants ex inc) f = same_named h.path (map (λ (g : ℕ × ℕ). g.0) grants) (of grants f.1)
    where
      of : (gs : List (ℕ × ℕ)) → AllByRecursion (λ (g : ℕ × ℕ). HasObject hd g.0) gs → AllByRecursion (λ x. HasObject hd x)
          (map (λ (g : ℕ × ℕ). g.0) gs)
      of [] all = tt
      of (g ∷ gs) all = (all.0, of gs all.1)

  same_void : is_void d t p.from p.message ≡ is_void_in hd k d t p.from p.message
  same_void = by (asks p.message) refl
    where
      by : (o : Option (Head × Ask)) → asks p.message ≡ o →
          is_void_by (is_unnamed t.naming) d t p.from p.message o ≡ is_void_by (is_unnamed_by hd k t.naming) d t p.from p.message o
      by None is = refl
      by (Some a) is = ask_same a.0 a.1 (fits a.0 a.1 is)

  pub meant_here : IsMeantAt hd p here t
  meant_here = record {
    meant = can_be_meant;
    as_said = as_said;
    void = subst (λ b. IsVoidWhere b (taken k d t p.from p.message)) same_void
        (subst (IsVoidWhere (is_void d t p.from p.message)) (sym as_said) (handled_exactly k d t p.from p.message));
  }

-- a node that is put in its own place changes nothing
same_seen : (M : Seen) (k : ℕ) (d : Disk) (t : Parts) → M.nodes k ≡ Some (record { number = k; disk = d; live = Some t }) → up k d t M ≡ M
same_seen M k d t is = λ i. record M { nodes = λ m. by m (m == k) refl i }
  where
    by : (m : ℕ) (b : Bool) → (m == k) ≡ b → cond (m == k) (Some (record { number = k; disk = d; live = Some t })) (M.nodes m) ≡ M.nodes m
    by m true e = (λ i. cond (e i) (Some (record { number = k; disk = d; live = Some t })) (M.nodes m)) ∙ sym is ∙ ap M.nodes
        (sym (eqb-true m k e))
    by m false e = λ i. cond (e i) (Some (record { number = k; disk = d; live = Some t })) (M.nodes m)

pub known_meant : KnownAreMeant
known_meant hd form M known p n t there found live number = subst (λ z. IsMeantAt hd p z t) (sym same)
    (meant_here hd form p.to n.disk t M (subst (MeantAreKnown hd) (sym (same_seen M p.to n.disk t (found ∙ ap Some same))) known) p there
    refl)
  where
    same : n ≡ record { number = p.to; disk = n.disk; live = Some t }
    same = λ i. record { number = number i; disk = n.disk; live = live i }

-- ---- in every run

pub runs_mean : RunsMean
runs_mean hd form r = let h = moves_asked hd (MeantAreKnown hd) (meant_keep hd form) r in
    record { sent = h.sent; stands = h.stands; holds = known_meant hd form (see h.sent (world_by hd r)) h.holds }

-- ---- frames

-- a step at a frame is that of the node, up or down
frame_step_is : (hd : Header) (n : Node) (k from : ℕ) (m : Option Message) (o : Option Parts) → n.live ≡ o →
    step hd n (input.Frame k from m) ≡ step_of hd (input.Frame k from m) n o
frame_step_is hd n k from m None is = (λ i. step_unless hd (input.Frame k from m) n (refusal_at hd (input.Frame k from m) (is i)))
    ∙ ap (step_of hd (input.Frame k from m) n) is
frame_step_is hd n k from m (Some t) is = (λ i. step_unless hd (input.Frame k from m) n (refusal_at hd (input.Frame k from m) (is i)))
    ∙ ap (step_of hd (input.Frame k from m) n) is

handled_says : (k : ℕ) (n : Node) (h : Handled) (b : Bool) → IsVoidWhere b h → SaysVoidWhere k n (handled_step k n h) b
handled_says k n (Void outs) b is =
    subst (SaysVoidWhere k n (handled_step k n (Void outs))) (sym is.0) (record { looks = outs; look = is.1; outs = refl; after = refl })
handled_says k n (Took v outs) b is =
    subst (SaysVoidWhere k n (handled_step k n (Took v outs))) (sym is) (record { rest = (whole n.number v outs n.disk).outs; outs = refl })

module _ (hd : Header) (form : HeaderFits hd) where
  frames_void : (w : World) → Holds hd (MeantAreKnown hd) w → FramesAreVoidExactly hd w
  frames_void w h k f n there found = by n.live refl f.message refl
    where
      sent : IsSent h.sent f
      sent = all_placed (IsSent h.sent) k w.frames f h.stands.frames there

      says : (o : Option Parts) → n.live ≡ o → (m : Option Message) → f.message ≡ m →
          SaysVoidWhere k n (step_of hd (input.Frame k f.from m) n o) (frame_is_void hd n.number n.disk o f.from m)
      says None live m is = record { looks = []; look = refl; outs = refl; after = refl }
      says (Some t) live None is = record { looks = []; look = refl; outs = refl; after = refl }
      says (Some t) live (Some m) is = handled_says k n (taken n.number n.disk t f.from m) (is_void_in hd n.number n.disk t f.from m)
          (let z = known_meant hd form (see h.sent w) h.holds (record { from = f.from; to = f.to; message = m }) n t
          (subst (λ (o : Option Message). IfSome o (λ q. In (record { from = f.from; to = f.to; message = q }) h.sent)) is sent) found live
          (h.stands.numbers f.to n found) in z.void)

      by : (o : Option Parts) → n.live ≡ o → (m : Option Message) → f.message ≡ m → IsVoidExactly hd k f n
      by o live m is = subst (λ (q : Option Message). SaysVoidWhere k n (step hd n (input.Frame k f.from q))
          (frame_is_void hd n.number n.disk n.live f.from q)) (sym is)
          (subst (λ (q : Option Parts). SaysVoidWhere k n (step hd n (input.Frame k f.from m))
          (frame_is_void hd n.number n.disk q f.from m)) (sym live)
          (subst (λ s. SaysVoidWhere k n s (frame_is_void hd n.number n.disk o f.from m)) (sym (frame_step_is hd n k f.from m o live))
          (says o live m is)))

  parts_hold : (ps : List Part) (w : World) → Holds hd (MeantAreKnown hd) w → Holds hd (MeantAreKnown hd) (parts_done ps w)
  parts_hold [] w h = h
  parts_hold (Delivers k ∷ ps) w h = parts_hold ps (deliver k w) (deliver_holds hd (MeantAreKnown hd) (meant_keep hd form) k w h)
  parts_hold (Ticks n ∷ ps) w h = parts_hold ps (tick_up n w) (by (w.full || not (is_up_at n w)))
    where
      by : (b : Bool) → Holds hd (MeantAreKnown hd) (cond b w (steps n input.Tick w))
      by true = h
      by false = steps_hold hd (MeantAreKnown hd) (meant_keep hd form) n input.Tick w h tt

counted_holds : (hd : Header) (P : Seen → Type 0) (w : World) → Holds hd P w → Holds hd P (counted w)
counted_holds hd P w h = record {
  sent = h.sent;
  stands = record {
    frames = h.stands.frames;
    junk = h.stands.junk;
    header = h.stands.header;
    numbers = h.stands.numbers;
    places = h.stands.places;
    labels = h.stands.labels;
  };
  holds = h.holds;
}

pub runs_void : RunsAreVoidExactly
runs_void hd form r arms ps = frames_void hd form (parts_done ps (record (counted (world_by hd r)) { arms = arms }))
    (parts_hold hd form ps (record (counted (world_by hd r)) { arms = arms }) (arms_hold hd (MeantAreKnown hd) arms
    (counted (world_by hd r))
    (counted_holds hd (MeantAreKnown hd) (world_by hd r) (moves_asked hd (MeantAreKnown hd) (meant_keep hd form) r))))
