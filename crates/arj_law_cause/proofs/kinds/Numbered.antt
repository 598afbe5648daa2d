-- Naming's objects stand by rising numbers, whatever it does: so whoever has a lock there has it on an entry by its number.
use Rattle.arj_law_parts.proofs.Words
use Words.{⊤, ◌≡◌, ◌<◌, ◌∙◌, ◌==◌, ◌||◌, not, ℕ, Bool, true, false, cond, List, [], ◌∷◌, map, Option, Some, None, refl, sym}
use Words.{ap, subst, arith, option_map, is_some, match_ordering, Ordering, Less, Equal, Greater, nat_cmp, is_eq, list_any}
use Words.{AllByRecursion, entry, object, is_on, uid_order, Ask, Asked, Binding, ConfirmedReply, End, Grants, Head, Marks}
use Words.{Message, ObjectState, Path, RecordedReply, Reply, Uid, BoundReply, answers, asks, actor, last_end, top_of, heard}
use Words.{checked, confirm, confirm_entries, confirm_new, confirms, entries_after, has_all, lock_all, lock_in, named_back, prepared_by}
use Words.{wanted}
use Words.{Coord, Already, Disk, Do, Effect, InDoubt, Look, Old, Pair, Prep, Ready, Did, Served, did_nothing, held_at, holder_of}
use Words.{is_prepared, prepare_answer, reply, void, acked, Named, bind_named, end_named, hello_named, locked, note_named}
use Words.{Naming, is_over, listed_entry, note, on_counted, on_named, told_new, Handled, Parts, Took, Void, by_reply}
use Words.{coord_heard, handle, handle_answer, handle_ask, handle_ends, handle_other, if_naming, load_by, load_held, naming_hello}
use Words.{naming_told}
use Words.{prepare_by, sends_answer, serve, with_coord, with_naming, at_number, each, put_number, rows_in_named}
use Words.ask
use Words.loaded
use Words.message
use Words.naming
use Words.prepared
use Words.recorded
use Words.server
use Words.what
use Rattle.arj_law_parts.specs.parts.Objects.{AreAbove, AreSorted}
use Rattle.arj_law_runs.specs.addresses.Addresses.{IsEntry}
use Rattle.arj_protocol.specs.Copy.{holds}

-- ---- lists

-- the keys rise
abbrev pub AreNumbered : {X : Type 0} → List (ℕ × X) → Type 0
AreNumbered [] = ⊤
AreNumbered {X} (e ∷ es) = AllByRecursion (λ (f : ℕ × X). e.0 < f.0) es × AreNumbered es

module _ {X : Type 0} where
  above_put : (k j : ℕ) (c : X) (m : List (ℕ × X)) → j < k → AllByRecursion (λ (e : ℕ × X). j < e.0) m →
      AllByRecursion (λ (e : ℕ × X). j < e.0) (put_number k c m)
  above_put k j c [] less all = (less, tt)
  above_put k j c (e ∷ es) less all = by (nat_cmp k e.0) (above_put k j c es less all.1)
    where
      by : (r : Ordering) → AllByRecursion (λ (f : ℕ × X). j < f.0) (put_number k c es) →
          AllByRecursion (λ (f : ℕ × X). j < f.0) (match_ordering r ((k, c) ∷ e ∷ es) ((e.0, c) ∷ es) (e ∷ put_number k c es))
      by Less ih = (less, all)
      by Equal ih = all
      by Greater ih = (all.0, ih)

  above_all : (k j : ℕ) (m : List (ℕ × X)) → k < j → AllByRecursion (λ (e : ℕ × X). j < e.0) m →
      AllByRecursion (λ (e : ℕ × X). k < e.0) m
  above_all k j [] less all = tt
  above_all k j (e ∷ es) less all = (omega (arith, less, all.0), above_all k j es less all.1)

  pub numbered_put : (k : ℕ) (c : X) (m : List (ℕ × X)) → AreNumbered m → AreNumbered (put_number k c m)
  numbered_put k c [] rise = (tt, tt)
  numbered_put k c (e ∷ es) rise = by (nat_cmp k e.0) refl (numbered_put k c es rise.1)
    where
      less : nat_cmp k e.0 ≡ Less → k < e.0
      less is = grind (arith, is)

      more : nat_cmp k e.0 ≡ Greater → e.0 < k
      more is = grind (arith, is)

      by : (r : Ordering) → nat_cmp k e.0 ≡ r → AreNumbered (put_number k c es) →
          AreNumbered (match_ordering r ((k, c) ∷ e ∷ es) ((e.0, c) ∷ es) (e ∷ put_number k c es))
      by Less is ih = ((less is, above_all k e.0 es (less is) rise.0), rise)
      by Equal is ih = rise
      by Greater is ih = (above_put k e.0 c es (more is) rise.0, ih)

  above_each : (f : ℕ → X → X) (k : ℕ) (m : List (ℕ × X)) → AllByRecursion (λ (e : ℕ × X). k < e.0) m →
      AllByRecursion (λ (e : ℕ × X). k < e.0) (each f m)
  above_each f k [] all = tt
  above_each f k (e ∷ es) all = (all.0, above_each f k es all.1)

  pub numbered_each : (f : ℕ → X → X) (m : List (ℕ × X)) → AreNumbered m → AreNumbered (each f m)
  numbered_each f [] rise = tt
  numbered_each f (e ∷ es) rise = (above_each f e.0 es rise.0, numbered_each f es rise.1)

  none_above : (k : ℕ) (m : List (ℕ × X)) → AllByRecursion (λ (e : ℕ × X). k < e.0) m → at_number k m ≡ None
  none_above k [] all = refl
  none_above k (e ∷ es) all = by (is_eq (nat_cmp k e.0)) refl (none_above k es all.1)
    where
      same_key : is_eq (nat_cmp k e.0) ≡ true → e.0 ≡ k
      same_key is = grind (arith, is)

      by : (b : Bool) → is_eq (nat_cmp k e.0) ≡ b → at_number k es ≡ None → cond b (Some e.1) (at_number k es) ≡ None
      by true is ih = let same = same_key is in absurd (omega (arith, same, all.0))
      by false is ih = ih

-- who has a lock has it on an entry by its number
pub lock_found : (u : Uid) (m : List (ℕ × Named)) → AreNumbered m → list_any (λ (e : ℕ × Named). holds u e.1.rows) m ≡ true →
    (x : ℕ) × (holds u (rows_in_named (at_number x m)) ≡ true)
lock_found u [] rise any = absurd (cc any)
lock_found u (e ∷ es) rise any = by (holds u e.1.rows) refl any (lock_found u es rise.1)
  where
    self : (n : ℕ) → is_eq (nat_cmp n n) ≡ true
    self n = grind arith

    same_key : (k n : ℕ) → is_eq (nat_cmp k n) ≡ true → n ≡ k
    same_key k n is = grind (arith, is)

    behind : (x : ℕ) → holds u (rows_in_named (at_number x es)) ≡ true → (b : Bool) → is_eq (nat_cmp x e.0) ≡ b →
        holds u (rows_in_named (cond b (Some e.1) (at_number x es))) ≡ true
    behind x is false other = is
    behind x is true at =
        let none : at_number x es ≡ None = ap (λ k. at_number k es) (sym (same_key x e.0 at)) ∙ none_above e.0 es rise.0 in
        absurd (cc (sym (ap (λ o. holds u (rows_in_named o)) none) ∙ is))

    by : (b : Bool) → holds u e.1.rows ≡ b → (b || list_any (λ (f : ℕ × Named). holds u f.1.rows) es) ≡ true →
        (list_any (λ (f : ℕ × Named). holds u f.1.rows) es ≡ true → (x : ℕ) × (holds u (rows_in_named (at_number x es)) ≡ true)) →
        (x : ℕ) × (holds u (rows_in_named (at_number x (e ∷ es))) ≡ true)
    by true its any ih = (e.0, (λ i. holds u (rows_in_named (cond (self e.0 i) (Some e.1) (at_number e.0 es)))) ∙ its)
    by false off any ih = let r = ih any in (r.0, behind r.0 r.1 (is_eq (nat_cmp r.0 e.0)) refl)

-- what a restart finds on the disk, where entries stand in the order of their names
pub recovered_rise : (d : Pair) (held : List (Uid × ObjectState)) → AllByRecursion (λ (e : Uid × ObjectState). IsEntry e.0 × ⊤) held →
    AreSorted held → AreNumbered (map (named_back d) held)
recovered_rise d [] all sorted = tt
recovered_rise d (e ∷ es) all sorted = (above es all.1 sorted.0, recovered_rise d es all.1 sorted.1)
  where
    less : (a b : ℕ) → uid_order (entry a) (entry b) ≡ Less → a < b
    less a b is = let same : nat_cmp a b ≡ Less = is in grind (arith, same)

    above : (fs : List (Uid × ObjectState)) → AllByRecursion (λ (f : Uid × ObjectState). IsEntry f.0 × ⊤) fs → AreAbove e.0 fs →
        AllByRecursion (λ (f : ℕ × Named). e.0.num < f.0) (map (named_back d) fs)
    above [] its up = tt
    above (f ∷ fs) its up = (
      less e.0.num f.0.num ((λ i. uid_order (sym all.0.0 i) (sym its.0.0 i)) ∙ up.0),
      above fs its.1 up.1,
    )

-- ---- what naming does

abbrev pub Rise : Naming → Type 0
Rise n = AreNumbered n.objects

bind_rises : (p : Path) (x : ℕ) (include : Bool) (avoid : Binding) (d : Pair) (n : Naming) → Rise n →
    Rise (naming.bind p x include avoid d n).part
bind_rises p x include avoid d n rise = by (is_over p n) (at_number x n.objects)
  where
    counted : (o : Option Named) → Rise (on_counted x (bind_named n.inc x p include avoid (listed_entry x d)) n o).part
    counted None = rise
    counted (Some o) = numbered_put x (bind_named n.inc x p include avoid (listed_entry x d) (record {
      named = o;
      count = n.count;
    })).part.named
        n.objects rise

    by : (b : Bool) (o : Option Named) → Rise (cond {A = Served Naming BoundReply} b (void n)
        (on_counted x (bind_named n.inc x p include avoid (listed_entry x d)) n o)).part
    by true o = rise
    by false o = counted o

note_rises : (p : Path) (x : ℕ) (b : Binding) (i g : ℕ) (n : Naming) → Rise n → Rise (note p x b i g n).part
note_rises p x b i g n rise = by (is_over p n || not (is_some (at_number x n.objects))) (g == n.inc)
  where
    named : (o : Option Named) → Rise (on_named x (note_named x (top_of p) b i) n o).part
    named None = rise
    named (Some o) = numbered_put x (note_named x (top_of p) b i o).part n.objects rise

    by : (a c : Bool) → Rise (cond {A = Served Naming RecordedReply} a (void n)
        (cond c (on_named x (note_named x (top_of p) b i) n (at_number x n.objects))
        (reply n (recorded.Changed (what.Inc g n.inc))))).part
    by true c = rise
    by false true = named (at_number x n.objects)
    by false false = rise

locks_rise : (xs : List ℕ) (p : Path) (n : Naming) → Rise n → Rise (lock_all xs p n).part
locks_rise [] p n rise = rise
locks_rise (x ∷ xs) p n rise = locks_rise xs p (lock_in x p n (at_number x n.objects)).part (one (at_number x n.objects))
  where
    one : (o : Option Named) → Rise (lock_in x p n o).part
    one None = rise
    one (Some o) = numbered_put x (locked x p Words.mode.Exclude o) n.objects rise

confirm_rises : (p : Path) (grants : Grants) (excluded included : Marks) (d : Pair) (n : Naming) → Rise n →
    Rise (confirm p grants excluded included d n).part
confirm_rises p grants excluded included d n rise = by (is_over p n || not (has_all grants n))
    (is_on n.confirmed (top_of p) || is_prepared (top_of p) d)
  where
    t : Did Naming
    t = lock_all (wanted (top_of p) grants excluded d) p n

    its : Rise t.part
    its = locks_rise (wanted (top_of p) grants excluded d) p n rise

    entries : (states : List ObjectState) → Rise (confirm_entries (top_of p) states d t).part
    entries [] = its
    entries (s ∷ ss) = answer (prepare_answer (top_of p) (s ∷ ss) d)
      where
        answer : (a : Prep) → Rise (prepared_by (top_of p) (s ∷ ss) t a).part
        answer Ready = its
        answer (Already w) = its
        answer (Old w z) = its
        answer (InDoubt w holder) = its

    new : (r : Option ConfirmedReply) → Rise (confirm_new p grants excluded included d n r).part
    new (Some r) = rise
    new None = entries (entries_after (top_of p) grants excluded included d)

    by : (a b : Bool) → Rise (cond {A = Served Naming ConfirmedReply} a (void n) (cond b (reply (confirms (top_of p) n) Words.confirmed.Yes)
        (confirm_new p grants excluded included d n (checked p grants excluded included d n)))).part
    by true b = rise
    by false true = rise
    by false false = new (checked p grants excluded included d n)

told_rises : (u : Uid) (e : End) (d : Pair) (n : Naming) → Rise n → Rise (naming.told u e d n).part
told_rises u e d n rise = by (is_on n.told u)
  where
    by : (b : Bool) → Rise (cond {A = Did Naming} b (did_nothing n) (told_new u (naming.taken_end u e n) d n)).part
    by true = rise
    by false = numbered_each (λ x. end_named u (naming.taken_end u e n)) n.objects rise

-- ---- a message

module _ (k : ℕ) (d : Disk) (t : Parts) (from : ℕ) (before : (o : Naming) → t.naming ≡ Some o → Rise o) where
  abbrev Rises : Option Naming → Type 0
  Rises after = (o : Naming) → after ≡ Some o → Rise o

  abbrev pub RisesBy : Handled → Type 0
  RisesBy (Void outs) = ⊤
  RisesBy (Took v outs) = Rises v.naming

  some_is : {A : Type 0} {a b : A} → Some a ≡ Some b → a ≡ b
  some_is {A} {a} {b} is = let k : ◌≡◌ {A = Option A} (Some a) (Some b) = is in cc

  gone : (m : Naming) → Rise m → Rises (Some m)
  gone m rise o is = subst Rise (some_is is) rise

  answered : (h : Head) (v : Parts) (outs : List Effect) (o : Option Reply) → Rises v.naming → RisesBy (sends_answer from h v outs o)
  answered h v outs None f = tt
  answered h v outs (Some r) f = f

  with_it : (f : Naming → Handled) (o : Option Naming) → t.naming ≡ o → ((n : Naming) → Rise n → RisesBy (f n)) → RisesBy (if_naming f o)
  with_it f None is its = tt
  with_it f (Some n) is its = its n (before n is)

  asked : (h : Head) (a : Ask) → RisesBy (serve k d t from h a)
  asked h (ask.Bind x include avoid) = with_it _ t.naming refl (λ n rise. let r = naming.bind h.path x include avoid d.names n in
      answered h (with_naming t r.part) r.outs (option_map Reply.Bound r.reply) (gone r.part (bind_rises h.path x include avoid d.names n
      rise)))
  asked h (ask.Load x) = load (holder_of (object x) d.store)
    where
      held : (s : Option ObjectState) → RisesBy (load_held from h t s)
      held None = tt
      held (Some s) = answered h t (Do Look ∷ []) (Some (Reply.Loaded (loaded.State s))) before

      load : (o : Option Uid) → RisesBy (load_by x d.store from h t o)
      load (Some u) = answered h t [] (Some (Reply.Loaded (loaded.InDoubt u))) before
      load None = held (held_at (object x) d.store)
  asked h (ask.Activate b st) = let r = server.activate k h.path b st t.server in
      answered h (Words.with_server t r.part) r.outs (option_map Reply.Activated r.reply) before
  asked h (ask.Record x b i g) = with_it _ t.naming refl (λ n rise. let r = naming.note h.path x b i g n in
      answered h (with_naming t r.part) r.outs (option_map Reply.Noted r.reply) (gone r.part (note_rises h.path x b i g n rise)))
  asked h (ask.Invoke x b i ends o) = let r = server.invoke k h x b i ends o t.server in
      answered h (Words.with_server t r.part) r.outs (option_map Reply.Invoked r.reply) before
  asked h (ask.Vote i ties ends) = let r = server.vote k h.path i ties ends t.server in
      answered h (Words.with_server t r.part) r.outs (option_map Reply.Voted r.reply) before
  asked h (ask.Prepare states) = twice (is_prepared (actor h.path) d.store)
    where
      new : (a : Prep) → RisesBy (prepare_by k states from h t a)
      new Ready = before
      new (Already u) = tt
      new (Old u w) = before
      new (InDoubt u holder) = before

      twice : (b : Bool) → RisesBy (cond b (sends_answer from h t [] (Some (Reply.Prepared prepared.Yes)))
          (prepare_by k states from h t (prepare_answer (actor h.path) states d.store)))
      twice true = before
      twice false = new (prepare_answer (actor h.path) states d.store)
  asked h (ask.Confirm grants excluded included) = with_it _ t.naming refl (λ n rise.
      let r = confirm h.path grants excluded included d.names n in
      answered h (with_naming t r.part) r.outs (option_map Reply.Confirmed r.reply)
      (gone r.part (confirm_rises h.path grants excluded included d.names n rise)))

  coord_left : (r : Served Coord (Unit {0})) → RisesBy (coord_heard t r)
  coord_left r = by r.reply
    where
      by : (o : Option (Unit {0})) → RisesBy (by_reply (with_coord t r.part) r.outs o)
      by None = tt
      by (Some u) = before

  ends_left : (ack : Bool) (ends : List (Uid × End)) (o : Option (Uid × End)) → RisesBy (handle_ends k d t from ack ends o)
  ends_left ack ends None = before
  ends_left ack ends (Some e) = named t.naming refl
    where
      named : (o : Option Naming) → t.naming ≡ o → Rises (naming_told e.0 e.1 d.names o).part
      named None at = λ p is. absurd (cc is)
      named (Some n) at = gone (naming.told e.0 e.1 d.names n).part (told_rises e.0 e.1 d.names n (before n at))

  helloed : (node inc : ℕ) (o : Option Naming) → t.naming ≡ o → Rises (naming_hello node inc o)
  helloed node inc None at = λ p is. absurd (cc is)
  helloed node inc (Some n) at = gone (naming.hello node inc n) (numbered_each (λ x. hello_named node inc) n.objects (before n at))

  other : (n : Message) → RisesBy (handle_other k d t from n)
  other (message.Told n) = ends_left n.ack n.ends (last_end n.ends)
  other (message.Acked n) = coord_left (acked from n.act d.intents t.coord)
  other (message.Query n) = before
  other (message.Hello n) = helloed n.node n.inc t.naming refl
  other n = tt

  pub message_rises : (v : Parts) (m : Message) (outs : List Effect) → handle k d t from m ≡ Took v outs → (o : Naming) →
      v.naming ≡ Some o → Rise o
  message_rises v m outs is = subst RisesBy is (by (asks m))
    where
      answer : (o : Option (Asked × Reply)) → RisesBy (handle_answer k d t from m o)
      answer None = other m
      answer (Some a) = coord_left (heard from a.0 a.1 d.intents t.coord)

      by : (o : Option (Head × Ask)) → RisesBy (handle_ask k d t from m o)
      by None = answer (answers m)
      by (Some a) = asked a.0 a.1
