-- A message that isn't a Bind leaves naming's incarnation, its count and its turns, and of its bindings what is known.
use Rattle.arj_law_parts.proofs.Words
use Words.{◌≡◌, ◌∙◌, ◌==◌, ◌||◌, not, ℕ, Bool, true, false, cond, List, [], ◌∷◌, Option, Some, None}
use Words.{refl, sym, ap, subst}
use Words.{⊤, arith, is_some, option_map, Uid, Ask, Asked, Binding, ConfirmedReply, End, Head, Message, ObjectState, Path}
use Words.{RecordedReply, entry, is_on, lower_row, object, Reply, actor, answers, last_end, top_of, heard}
use Words.{Grants}
use Words.{Marks, checked, confirm, confirm_entries, confirm_new, confirms, entries_after, has_all, lock_all, lock_in, prepared_by}
use Words.{wanted}
use Words.{Coord, Already, Disk, Do, Effect, InDoubt, Look, Old, Pair, Prep, Ready, Did, Served, did_nothing, held_at}
use Words.{holder_of, is_prepared, prepare_answer, reply, void, acked, Made, Named, end_named, hello_named, in_use}
use Words.{is_lowered}
use Words.{locked, lowered, note_made, note_named, note_other, Naming, is_over, note, on_named, taken_end, told_new, Handled, Parts, Took}
use Words.{Void, by_reply, coord_heard, handle_answer, handle_ask, handle_ends, handle_other, if_naming}
use Words.{load_by, load_held, naming_hello, naming_told, prepare_by, sends_answer, serve}
use Words.{with_coord}
use Words.{with_naming, with_server, at_number, at_uid, binding_eq, each, put_number, put_same, put_other, is_binding, is_eq, nat_cmp}
use Words.ask
use Words.confirmed
use Words.ending
use Words.loaded
use Words.message
use Words.mode
use Words.prepared
use Words.recorded
use Words.what
use Words.naming
use Words.server
use Rattle.arj_law_parts.proofs.Terms.{told}
use Rattle.arj_protocol.proofs.Unknown.{found_each}
use Rattle.arj_law_cause.proofs.bindings.Named.{IsNamingSo, OfServer, confirm_so, hello_so, note_so, told_so}

-- the server that was bound last for the object
abbrev pub turn_in : Option Named → Option ℕ
turn_in None = None
turn_in (Some o) = o.turn

abbrev pub turn_at : ℕ → Naming → Option ℕ
turn_at x n = turn_in (at_number x n.objects)

-- naming is in the same incarnation, with the same count and turns
pub record IsAlike (o p : Naming) : Type 0 where
  pub inc : p.inc ≡ o.inc
  pub count : p.count ≡ o.count
  pub turns : (x : ℕ) → turn_at x p ≡ turn_at x o

pub alike_itself : (n : Naming) → IsAlike n n
alike_itself n = record { inc = refl; count = refl; turns = λ x. refl }

alike_both : (n o p : Naming) → IsAlike n o → IsAlike o p → IsAlike n p
alike_both n o p a b = record { inc = b.inc ∙ a.inc; count = b.count ∙ a.count; turns = λ x. b.turns x ∙ a.turns x }

same_key : (k n : ℕ) → is_eq (nat_cmp k n) ≡ true → n ≡ k
same_key k n is = grind (arith, is)

-- an object put back with the same turn
pub put_turn : (y : ℕ) (q v : Named) (m : List (ℕ × Named)) → at_number y m ≡ Some q → v.turn ≡ q.turn → (x : ℕ) →
    turn_in (at_number x (put_number y v m)) ≡ turn_in (at_number x m)
put_turn y q v m there same x = by (is_eq (nat_cmp x y)) refl
  where
    by : (b : Bool) → is_eq (nat_cmp x y) ≡ b → turn_in (at_number x (put_number y v m)) ≡ turn_in (at_number x m)
    by true at = subst (λ z. turn_in (at_number z (put_number y v m)) ≡ turn_in (at_number z m)) (same_key x y at)
        (ap turn_in (put_same y v m) ∙ same ∙ ap turn_in (sym there))
    by false off = ap turn_in (put_other y x v m off)

each_turn : (f : ℕ → Named → Named) → ((k : ℕ) (o : Named) → (f k o).turn ≡ o.turn) → (m : List (ℕ × Named)) → (x : ℕ) →
    turn_in (at_number x (each f m)) ≡ turn_in (at_number x m)
each_turn f same m x = ap turn_in (found_each f x m) ∙ by (at_number x m)
  where
    by : (o : Option Named) → turn_in (option_map (f x) o) ≡ turn_in o
    by None = refl
    by (Some o) = same x o

-- ---- the handlers of naming

lowered_turn : (x : ℕ) (top : Uid) (o : Named) → (lowered x top o).turn ≡ o.turn
lowered_turn x top o = by (is_lowered x top o)
  where
    by : (b : Bool) → (cond b (record o { rows = lower_row top (entry x) o.rows }) o).turn ≡ o.turn
    by true = refl
    by false = refl

noted_turn : (x : ℕ) (top : Uid) (b : Binding) (i : ℕ) (o : Named) → (let v = (note_named x top b i o).part in v.turn) ≡ o.turn
noted_turn x top b i o = by (is_binding b o.recorded)
  where
    made : (m : Made) (c : Bool) → (let v = (cond {A = Served Named RecordedReply} c (reply o recorded.Yes)
        (record { part = lowered x top (in_use top m i o); outs = Words.lower_lines x top o; reply = Some recorded.Yes })).part in v.turn)
        ≡ o.turn
    made m true = refl
    made m false = lowered_turn x top (in_use top m i o)

    other : (q : Option Made) → (let v = (note_other x top b i o q).part in v.turn) ≡ o.turn
    other None = refl
    other (Some m) = one (binding_eq b m.binding)
      where
        one : (c : Bool) → (let v = (cond {A = Served Named RecordedReply} c (note_made x top i o m) (void o)).part in v.turn) ≡ o.turn
        one true = made m m.recorded
        one false = refl

    by : (c : Bool) →
        (let v = (cond {A = Served Named RecordedReply} c (reply o recorded.Yes) (note_other x top b i o (at_uid top o.made))).part in
        v.turn) ≡ o.turn
    by true = refl
    by false = other (at_uid top o.made)

note_alike : (p : Path) (x : ℕ) (b : Binding) (i g : ℕ) (n : Naming) → IsAlike n (note p x b i g n).part
note_alike p x b i g n = by (is_over p n || not (is_some (at_number x n.objects))) (g == n.inc)
  where
    there : (o : Option Named) → at_number x n.objects ≡ o → IsAlike n (on_named x (note_named x (top_of p) b i) n o).part
    there None is = alike_itself n
    there (Some o) is = record {
      inc = refl;
      count = refl;
      turns = put_turn x o (note_named x (top_of p) b i o).part n.objects is (noted_turn x (top_of p) b i o);
    }

    by : (over ours : Bool) → IsAlike n (cond {A = Served Naming RecordedReply} over (void n) (cond {A = Served Naming RecordedReply} ours
        (on_named x (note_named x (top_of p) b i) n (at_number x n.objects)) (reply n (recorded.Changed (what.Inc g n.inc))))).part
    by true ours = alike_itself n
    by false true = there (at_number x n.objects) refl
    by false false = alike_itself n

locks_alike : (xs : List ℕ) (p : Path) (n : Naming) → IsAlike n (lock_all xs p n).part
locks_alike [] p n = alike_itself n
locks_alike (x ∷ xs) p n = alike_both n (lock_in x p n (at_number x n.objects)).part _ (one (at_number x n.objects) refl)
    (locks_alike xs p (lock_in x p n (at_number x n.objects)).part)
  where
    one : (o : Option Named) → at_number x n.objects ≡ o → IsAlike n (lock_in x p n o).part
    one None is = alike_itself n
    one (Some o) is = record { inc = refl; count = refl; turns = put_turn x o (locked x p mode.Exclude o) n.objects is refl }

confirm_alike : (p : Path) (grants : Grants) (excluded included : Marks) (d : Pair) (n : Naming) →
    IsAlike n (confirm p grants excluded included d n).part
confirm_alike p grants excluded included d n =
    by (is_over p n || not (has_all grants n)) (is_on n.confirmed (top_of p) || is_prepared (top_of p) d)
  where
    of : (o : Naming) → IsAlike n o → IsAlike n (confirms (top_of p) o)
    of o a = record { inc = a.inc; count = a.count; turns = a.turns }

    answered : (states : List ObjectState) (t : Did Naming) (a : Prep) → IsAlike n t.part →
        IsAlike n (prepared_by (top_of p) states t a).part
    answered states t Ready s = of t.part s
    answered states t (Already u) s = s
    answered states t (Old u v) s = s
    answered states t (InDoubt u v) s = s

    entries : (states : List ObjectState) (t : Did Naming) → IsAlike n t.part → IsAlike n (confirm_entries (top_of p) states d t).part
    entries [] t s = of t.part s
    entries (x ∷ xs) t s = answered (x ∷ xs) t (prepare_answer (top_of p) (x ∷ xs) d) s

    new : (c : Option ConfirmedReply) → IsAlike n (confirm_new p grants excluded included d n c).part
    new (Some r) = alike_itself n
    new None = entries (entries_after (top_of p) grants excluded included d) (lock_all (wanted (top_of p) grants excluded d) p n)
        (locks_alike (wanted (top_of p) grants excluded d) p n)

    by : (over again : Bool) → IsAlike n (cond {A = Served Naming ConfirmedReply} over (void n)
        (cond {A = Served Naming ConfirmedReply} again (reply (confirms (top_of p) n) confirmed.Yes)
        (confirm_new p grants excluded included d n (checked p grants excluded included d n)))).part
    by true again = alike_itself n
    by false true = of n (alike_itself n)
    by false false = new (checked p grants excluded included d n)

told_alike : (u : Uid) (e : End) (d : Pair) (n : Naming) → IsAlike n (told u e d n).part
told_alike u e d n = by (is_on n.told u)
  where
    ended : (f : End) (k : ℕ) (o : Named) → (end_named u f o).turn ≡ o.turn
    ended ending.Commit k o = refl
    ended ending.Abort k o = refl

    by : (b : Bool) → IsAlike n (cond {A = Did Naming} b (did_nothing n) (told_new u (taken_end u e n) d n)).part
    by true = alike_itself n
    by false = record {
      inc = refl;
      count = refl;
      turns = each_turn (λ k. end_named u (taken_end u e n)) (ended (taken_end u e n)) n.objects;
    }

hello_alike : (node inc : ℕ) (n : Naming) → IsAlike n (naming.hello node inc n)
hello_alike node inc n = record {
  inc = refl;
  count = refl;
  turns = each_turn (λ k. hello_named node inc) (λ k o. refl) n.objects;
}

-- ---- a message

abbrev pub is_bind : Option (Head × Ask) → Bool
is_bind (Some (h, ask.Bind x include avoid)) = true
is_bind _ = false

-- What such a message leaves of naming stands in a relation to what was, where each call of naming but a Bind keeps it.
module _ (Rel : Naming → Naming → Type 0) (k : ℕ) (d : Disk) (t : Parts) (from : ℕ) (itself : (n : Naming) → Rel n n)
    (notes : (p : Path) (x : ℕ) (b : Binding) (i g : ℕ) (n : Naming) → t.naming ≡ Some n → Rel n (note p x b i g n).part)
    (confirming : (p : Path) (grants : Grants) (excluded included : Marks) (n : Naming) → t.naming ≡ Some n →
    Rel n (confirm p grants excluded included d.names n).part)
    (tells : (u : Uid) (e : End) (n : Naming) → t.naming ≡ Some n → Rel n (told u e d.names n).part)
    (hellos : (node inc : ℕ) (n : Naming) → t.naming ≡ Some n → Rel n (naming.hello node inc n)) where
  -- naming was there, and is as the relation says
  abbrev Left : Option Naming → Type 0
  Left after = (p : Naming) → after ≡ Some p → (o : Naming) × (t.naming ≡ Some o) × Rel o p

  abbrev pub LeftBy : Handled → Type 0
  LeftBy (Void outs) = ⊤
  LeftBy (Took v outs) = Left v.naming

  none_is : {A : Type 0} {x : A} → None ≡ Some x → ⊥
  none_is {A} {x} is = let no_way : ◌≡◌ {A = Option A} None (Some x) = is in cc

  some_is : {A : Type 0} {a b : A} → Some a ≡ Some b → a ≡ b
  some_is {A} {a} {b} is = let k : ◌≡◌ {A = Option A} (Some a) (Some b) = is in cc

  as_it_is : Left t.naming
  as_it_is p is = (p, is, itself p)

  answered : (h : Head) (v : Parts) (outs : List Effect) (o : Option Reply) → Left v.naming → LeftBy (sends_answer from h v outs o)
  answered h v outs None f = tt
  answered h v outs (Some r) f = f

  with_it : (f : Naming → Handled) (o : Option Naming) → t.naming ≡ o → ((n : Naming) → t.naming ≡ Some n → LeftBy (f n)) →
      LeftBy (if_naming f o)
  with_it f None is each = tt
  with_it f (Some n) is each = each n is

  gone : (n m : Naming) → t.naming ≡ Some n → Rel n m → Left (Some m)
  gone n m at a p is = (n, at, subst (Rel n) (some_is is) a)

  asked : (h : Head) (a : Ask) → is_bind (Some (h, a)) ≡ false → LeftBy (serve k d t from h a)
  asked h (ask.Bind x include avoid) off = absurd (cc off)
  asked h (ask.Load x) off = load (holder_of (object x) d.store)
    where
      held : (s : Option ObjectState) → LeftBy (load_held from h t s)
      held None = tt
      held (Some s) = answered h t (Do Look ∷ []) (Some (Reply.Loaded (loaded.State s))) as_it_is

      load : (o : Option Uid) → LeftBy (load_by x d.store from h t o)
      load (Some u) = answered h t [] (Some (Reply.Loaded (loaded.InDoubt u))) as_it_is
      load None = held (held_at (object x) d.store)
  asked h (ask.Activate b st) off = let r = server.activate k h.path b st t.server in
      answered h (with_server t r.part) r.outs (option_map Reply.Activated r.reply) as_it_is
  asked h (ask.Record x b i g) off = with_it _ t.naming refl (λ n at. let r = naming.note h.path x b i g n in
      answered h (with_naming t r.part) r.outs (option_map Reply.Noted r.reply)
      (gone n r.part at (notes h.path x b i g n at)))
  asked h (ask.Invoke x b i ends o) off = let r = server.invoke k h x b i ends o t.server in
      answered h (with_server t r.part) r.outs (option_map Reply.Invoked r.reply) as_it_is
  asked h (ask.Vote i ties ends) off = let r = server.vote k h.path i ties ends t.server in
      answered h (with_server t r.part) r.outs (option_map Reply.Voted r.reply) as_it_is
  asked h (ask.Prepare states) off = twice (is_prepared (actor h.path) d.store)
    where
      new : (a : Prep) → LeftBy (prepare_by k states from h t a)
      new Ready = as_it_is
      new (Already u) = tt
      new (Old u w) = as_it_is
      new (InDoubt u holder) = as_it_is

      twice : (b : Bool) → LeftBy (cond b (sends_answer from h t [] (Some (Reply.Prepared prepared.Yes)))
          (prepare_by k states from h t (prepare_answer (actor h.path) states d.store)))
      twice true = as_it_is
      twice false = new (prepare_answer (actor h.path) states d.store)
  asked h (ask.Confirm grants excluded included) off = with_it _ t.naming refl (λ n at.
      let r = confirm h.path grants excluded included d.names n in
      answered h (with_naming t r.part) r.outs (option_map Reply.Confirmed r.reply)
      (gone n r.part at (confirming h.path grants excluded included n at)))

  coord_left : (r : Served Coord (Unit {0})) → LeftBy (coord_heard t r)
  coord_left r = by r.reply
    where
      by : (o : Option (Unit {0})) → LeftBy (by_reply (with_coord t r.part) r.outs o)
      by None = tt
      by (Some u) = as_it_is

  ends_left : (ack : Bool) (ends : List (Uid × End)) (o : Option (Uid × End)) → LeftBy (handle_ends k d t from ack ends o)
  ends_left ack ends None = as_it_is
  ends_left ack ends (Some e) = named t.naming refl
    where
      named : (o : Option Naming) → t.naming ≡ o → Left (naming_told e.0 e.1 d.names o).part
      named None at p is = absurd (none_is is)
      named (Some n) at p is = gone n (naming.told e.0 e.1 d.names n).part at (tells e.0 e.1 n at) p is

  helloed : (node inc : ℕ) (o : Option Naming) → t.naming ≡ o → Left (naming_hello node inc o)
  helloed node inc None at p is = absurd (none_is is)
  helloed node inc (Some n) at p is = gone n (naming.hello node inc n) at (hellos node inc n at) p is

  other : (n : Message) → LeftBy (handle_other k d t from n)
  other (message.Told n) = ends_left n.ack n.ends (last_end n.ends)
  other (message.Acked n) = coord_left (acked from n.act d.intents t.coord)
  other (message.Query n) = as_it_is
  other (message.Hello n) = helloed n.node n.inc t.naming refl
  other (message.Bind n) = tt
  other (message.Bound n) = tt
  other (message.Load n) = tt
  other (message.Loaded n) = tt
  other (message.Activate n) = tt
  other (message.Activated n) = tt
  other (message.RecordMsg n) = tt
  other (message.Recorded n) = tt
  other (message.Invoke n) = tt
  other (message.Invoked n) = tt
  other (message.Vote n) = tt
  other (message.Voted n) = tt
  other (message.Prepare n) = tt
  other (message.Prepared n) = tt
  other (message.Confirm n) = tt
  other (message.Confirmed n) = tt

  pub message_leaves : (m : Message) (o : Option (Head × Ask)) → is_bind o ≡ false → LeftBy (handle_ask k d t from m o)
  message_leaves m None off = answer (answers m)
    where
      answer : (o : Option (Asked × Reply)) → LeftBy (handle_answer k d t from m o)
      answer None = other m
      answer (Some a) = coord_left (heard from a.0 a.1 d.intents t.coord)
  message_leaves m (Some a) off = asked a.0 a.1 off

-- naming is in the same incarnation, with the same count and turns, and of its bindings is known what was
module _ (N : OfServer) (k : ℕ) (d : Disk) (t : Parts) (from : ℕ) where
  abbrev pub So : Naming → Type 0
  So n = IsNamingSo N (λ x b s i. ⊤) n

  abbrev pub Stays : Naming → Naming → Type 0
  Stays o p = IsAlike o p × (So o → So p)

  pub stays_itself : (n : Naming) → Stays n n
  stays_itself n = (alike_itself n, λ so. so)

  pub note_stays : (p : Path) (x : ℕ) (b : Binding) (i g : ℕ) (n : Naming) → t.naming ≡ Some n → Stays n (note p x b i g n).part
  note_stays p x b i g n at = (note_alike p x b i g n, note_so N (λ x b s i. ⊤) p x b i g n (λ m its same. tt))

  pub confirm_stays : (p : Path) (grants : Grants) (excluded included : Marks) (n : Naming) → t.naming ≡ Some n →
      Stays n (confirm p grants excluded included d.names n).part
  confirm_stays p grants excluded included n at =
      (confirm_alike p grants excluded included d.names n, confirm_so N (λ x b s i. ⊤) p grants excluded included d.names n)

  pub told_stays : (u : Uid) (e : End) (n : Naming) → t.naming ≡ Some n → Stays n (told u e d.names n).part
  told_stays u e n at = (told_alike u e d.names n, told_so N (λ x b s i. ⊤) u e d.names n)

  pub hello_stays : (node inc : ℕ) (n : Naming) → t.naming ≡ Some n → Stays n (naming.hello node inc n)
  hello_stays node inc n at = (hello_alike node inc n, hello_so N (λ x b s i. ⊤) node inc n)

  abbrev pub StaysBy : Handled → Type 0
  StaysBy h = LeftBy Stays k d t from stays_itself note_stays confirm_stays told_stays hello_stays h

  pub message_stays : (m : Message) (o : Option (Head × Ask)) → is_bind o ≡ false → StaysBy (handle_ask k d t from m o)
  message_stays = message_leaves Stays k d t from stays_itself note_stays confirm_stays told_stays hello_stays
