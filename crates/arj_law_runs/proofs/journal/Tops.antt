-- The tops that a journal lists are its committed tops, each once.
use Rattle.arj_law_parts.proofs.Words
use Words.{◌≡◌, ◌≢◌, ℕ, ◌+◌, ◌==◌, ◌||◌, List, [], ◌∷◌, ◌++◌, Bool, true, false, cond, Option, Some, None, refl, sym, ◌∙◌, ap, subst, inl}
use Words.{inr, ⊎_elim, eqb-true, eq-eqb, AllByRecursion, cons_option, filter_map, list_any, bytes_eq, uid_is, Uid, is_on, uid_eq, Body}
use Words.{Kind, Line, In, in_from, in_to, name, is_serial}
use Rattle.arj_law_runs.proofs.Terms
use Terms.{Act, Placed, act_in, acts, acts_from, committed, is_committed, path, put, read, recovered, top_in, upwards, Book}
use Terms.{book, book_from, is_decided, is_top, new_book, turned, with_named, AreFormed, IsDone, AreRight, IsBelow, Right, has_act}
use Terms.body
use Rattle.arj_law_runs.proofs.journal
use journal.Books.{Later, committed_decided, later_turn, named_is, never, on_here, or_which}
use journal.Models.{AreSound, Tells, acts_turn, among, caused, ended_once, holds, in_later, is_book, its_decision, its_sound, named_in}
use journal.Models.{new_sound, one_outcome, or_none, reads, sound_turn, tells, calls_timely, exclusions_timely, commits_called}
use Rattle.arj_law_runs.specs.journal.Laws.{AreApart, AreItsTops, IsSound, IsTop}
use Rattle.arj_model.specs.Actions.{root_in}
use Rattle.arj_model.specs.Calls.{Top, committing_of, committings, root_or, top_by, top_of, tops}
use Rattle.arj_journal.specs.declared.body.Kind.TheVariants as kind

-- ---- paths of tops

-- a serializing action stands alone
serial_path : (acts : List Act) (p : List ℕ) (s : Act) → AreFormed acts → act_in acts p ≡ Some s → is_serial s.kind ≡ true →
    path acts p ≡ s ∷ []
serial_path [] p s formed is serial = absurd (cc is)
serial_path (x ∷ older) p s formed is serial = by (λ f. serial_path older p s formed.1 f serial) (bytes_eq x.label p) is
  where
    alone : (k : Kind) (parent : Option (List ℕ)) → is_serial k ≡ true → IsBelow older k parent → upwards parent k (path older) ≡ []
    alone kind.Serial None e b = refl
    alone kind.Serial (Some q) e b = absurd b
    alone kind.Top parent e b = absurd (cc e)
    alone kind.Nested parent e b = absurd (cc e)
    alone kind.Constituent parent e b = absurd (cc e)
    alone kind.Independent parent e b = absurd (cc e)

    by : (act_in older p ≡ Some s → path older p ≡ s ∷ []) → (t : Bool) → cond t (Some x) (act_in older p) ≡ Some s →
        cond t (upwards x.parent x.kind (path older) ++ x ∷ []) (path older p) ≡ s ∷ []
    by ih true e = let same : x ≡ s = cc e in
        ap (λ us. us ++ x ∷ []) (alone x.kind x.parent (ap (λ (a : Act). is_serial a.kind) same ∙ serial) formed.0) ∙ ap (λ a. a ∷ []) same
    by ih false e = ih e

-- the top of a top's path is itself
top_path : (acts : List Act) (p : List ℕ) (a : Act) → AreFormed acts → act_in acts p ≡ Some a → is_top a.kind ≡ true →
    top_in (path acts p) ≡ Some a
top_path [] p a formed is top = absurd (cc is)
top_path (x ∷ older) p a formed is top = by (λ f. top_path older p a formed.1 f top) (bytes_eq x.label p) is
  where
    plain : (k : Kind) → x.kind ≡ k → is_serial k ≡ false → top_in (x ∷ []) ≡ Some x
    plain k same e = ap (λ b. cond b None (Some x)) (ap is_serial same ∙ e)

    shape : (k : Kind) (parent : Option (List ℕ)) → x.kind ≡ k → is_top k ≡ true → IsBelow older k parent →
        top_in (upwards parent k (path older) ++ x ∷ []) ≡ Some x
    shape kind.Top None same e b = plain kind.Top same refl
    shape kind.Top (Some q) same e b = absurd b
    shape kind.Independent None same e b = absurd b
    shape kind.Independent (Some q) same e b = plain kind.Independent same refl
    shape kind.Constituent None same e b = absurd b
    shape kind.Constituent (Some q) same e b =
        ap (λ us. top_in (us ++ x ∷ [])) (serial_path older q b.0 formed.1 b.1 b.2) ∙ ap (λ t. cond t (Some x) (Some b.0)) b.2
    shape kind.Nested parent same e b = absurd (cc e)
    shape kind.Serial parent same e b = absurd (cc e)

    by : (act_in older p ≡ Some a → top_in (path older p) ≡ Some a) → (t : Bool) → cond t (Some x) (act_in older p) ≡ Some a →
        top_in (cond t (upwards x.parent x.kind (path older) ++ x ∷ []) (path older p)) ≡ Some a
    by ih true e = let same : x ≡ a = cc e in
        shape x.kind x.parent refl (ap (λ (y : Act). is_top y.kind) same ∙ top) formed.0 ∙ ap Some same
    by ih false e = ih e

-- ---- calls of commits

-- An item of the calls: it is of a top that is one of these actions, and whose commit wasn't called yet.
record IsCall (all : List Act) (B : Book) (m : Placed (List Act)) : Type 0 where
  act : Act
  is : top_in m.it ≡ Some act
  there : In act all
  top : is_top act.kind ≡ true
  new : is_on B.called act.uid ≡ false

-- the same top isn't called twice
abbrev AreOnce : List (Placed (List Act)) → Type 0
AreOnce [] = Unit {0}
AreOnce (m ∷ ms) =
    AllByRecursion (λ (n : Placed (List Act)). (a b : Act) → top_in m.it ≡ Some a → top_in n.it ≡ Some b → a.id ≢ b.id) ms × AreOnce ms

all_to : {A : Type 0} (P Q : A → Type 0) (xs : List A) → ((x : A) → P x → Q x) → AllByRecursion P xs → AllByRecursion Q xs
all_to P Q [] each all = tt
all_to P Q (x ∷ xs) each all = (each x all.0, all_to P Q xs each all.1)

not_yet : (B V : Book) → Later B V → (u : Uid) → is_on V.called u ≡ false → is_on B.called u ≡ false
not_yet B V l u off = by (is_on B.called u) refl
  where
    by : (x : Bool) → is_on B.called u ≡ x → x ≡ false
    by true on = never (l.called u on) off
    by false on = refl

record AreCalls (all : List Act) (B : Book) (ms : List (Placed (List Act))) : Type 0 where
  each : AllByRecursion (IsCall all B) ms
  once : AreOnce ms

one_act : (a b : Act) (o : Option Act) → o ≡ Some a → o ≡ Some b → a ≡ b
one_act a b o is js = let e : ◌≡◌ {A = Option Act} (Some a) (Some b) = sym is ∙ js in cc

calls_from : (all : List Act) → ((x a : Act) → In x all → In a all → (x.id == a.id) ≡ uid_eq x.uid a.uid) → (B : Book) (n : ℕ)
    (ls : List Line) → AreRight B ls → AreSound B.acts → acts_from B.acts ls ≡ all → AreCalls all B (read committing_of B.acts n ls)
calls_from all apart B n [] right s end = record { each = tt; once = tt }
calls_from all apart B n (l ∷ ls) right s end =
    let W = turned B l.body in
    let ih = calls_from all apart W (n + 1) ls right.1 (sound_turn B l.body right.0 s)
    (ap (λ xs. acts_from xs ls) (acts_turn B l.body) ∙ end) in
    subst (λ xs. AreCalls all B (put n (committing_of B.acts l.body) (read committing_of xs (n + 1) ls))) (acts_turn B l.body)
    (by l.body right.0 ih)
  where
    plainly : (b : Body) (ms : List (Placed (List Act))) → AreCalls all (turned B b) ms → AreCalls all B ms
    plainly b ms c = record {
      each = all_to (IsCall all (turned B b)) (IsCall all B) ms (λ m i.
          record { act = i.act; is = i.is; there = i.there; top = i.top; new = not_yet B (turned B b) (later_turn B b) i.act.uid i.new })
          c.each;
      once = c.once;
    }

    by : (b : Body) → Right B b → {ms : List (Placed (List Act))} → AreCalls all (turned B b) ms →
        AreCalls all B (put n (committing_of B.acts b) ms)
    by (body.Committing q) r {ms} c =
        let a = r.0 in
        let o = r.1 in
        let top = top_path B.acts (name q) a s.formed o.named r.2 in
        let there = subst (In a) end (in_later (l ∷ ls) B.acts a (named_in B.acts (name q) a o.named)) in
        let old = plainly (body.Committing q) ms c in
        record {
          each = (record { act = a; is = top; there = there; top = r.2; new = r.3 }, old.each);
          once = (
            all_to (IsCall all (turned B (body.Committing q))) _ ms (λ m i x y x_is y_is same.
                let ax : x ≡ a = one_act x a (top_in (path B.acts (name q))) x_is top in
                let by_id : (a.id == i.act.id) ≡ true = eq-eqb a.id i.act.id
                (ap (λ (z : Act). z.id) (sym ax) ∙ same ∙ ap (λ (z : Act). z.id) (one_act y i.act (top_in m.it) y_is i.is)) in
                let uid : a.uid ≡ i.act.uid = uid_is a.uid i.act.uid (sym (apart a i.act there i.there) ∙ by_id) in
                never (ap (λ us. is_on us i.act.uid) (named_is B.acts q B.called a o.named) ∙ ap (λ w. is_on (w ∷ B.called) i.act.uid) uid
                ∙ on_here i.act.uid B.called) i.new) c.each,
            c.once,
          );
        }
    by (body.Began q k u p) r {ms} c = plainly (body.Began q k u p) ms c
    by (body.Committed q) r {ms} c = plainly (body.Committed q) ms c
    by (body.Aborted q w) r {ms} c = plainly (body.Aborted q w) ms c
    by (body.Ended q) r {ms} c = plainly (body.Ended q) ms c
    by (body.Recovered k u) r {ms} c = plainly (body.Recovered k u) ms c
    by b r {ms} c = plainly b ms c

-- whoever was called is among the calls
called_step : (a : Act) (B : Book) (b : Body) → Right B b → AreSound B.acts → Tells a B.acts → (holds (λ (p : List Act). holds
    (λ (t : Act). t.id == a.id) (top_in p)) (committing_of B.acts b) || is_on B.called a.uid) ≡ is_on (let V = turned B b in V.called) a.uid
called_step a B (body.Committing l) right s t =
    let x = right.0 in
    let o = right.1 in
    ap (λ p. holds (λ (y : Act). y.id == a.id) p || is_on B.called a.uid) (top_path B.acts (name l) x s.formed o.named right.2)
    ∙ ap (λ b. b || is_on B.called a.uid) (t x (named_in B.acts (name l) x o.named))
    ∙ ap (λ us. is_on us a.uid) (sym (named_is B.acts l B.called x o.named))
called_step a B (body.Began l k u p) right s t = refl
called_step a B (body.Committed l) right s t = refl
called_step a B (body.Aborted l c) right s t = refl
called_step a B (body.Ended l) right s t = refl
called_step a B (body.Recovered n u) right s t = refl
called_step a B b right s t = refl

-- a decided top was called
abbrev WereCalled : List Act → Book → Type 0
WereCalled all B = (a : Act) → In a all → is_top a.kind ≡ true → is_decided B a.uid ≡ true → is_on B.called a.uid ≡ true

called_lines : (all : List Act) → ((x a : Act) → In x all → In a all → (x.id == a.id) ≡ uid_eq x.uid a.uid) →
    ((x a : Act) → In x all → In a all → x.uid ≡ a.uid → x.kind ≡ a.kind) → (B : Book) (ls : List Line) → AreRight B ls →
    acts_from B.acts ls ≡ all → WereCalled all B → WereCalled all (book_from B ls)
called_lines all apart kinds B [] right end w = w
called_lines all apart kinds B (l ∷ ls) right end w =
    called_lines all apart kinds (turned B l.body) ls right.1 (ap (λ xs. acts_from xs ls) (acts_turn B l.body) ∙ end) (by l.body right.0)
  where
    old : (b : Body) (a : Act) → In a all → is_top a.kind ≡ true → is_decided B a.uid ≡ true →
        is_on (let V = turned B b in V.called) a.uid ≡ true
    old b a i top is = let t = later_turn B b in t.called a.uid (w a i top is)

    by : (b : Body) → Right B b → WereCalled all (turned B b)
    by (body.Committed q) r a i top is =
        let x = r.0 in
        let o = r.1 in
        let there = subst (In x) end (in_later (l ∷ ls) B.acts x (named_in B.acts (name q) x o.named)) in
        ⊎_elim (λ on. ⊎_elim
        (λ same. subst (λ u. is_on B.called u ≡ true) (uid_is x.uid a.uid same)
        (r.3 ∙ ap is_top (kinds x a there i (uid_is x.uid a.uid same)) ∙ top))
        (λ was. w a i top (committed_decided B a.uid was)) (or_which (uid_eq x.uid a.uid) (is_on B.committed a.uid)
        (ap (λ us. is_on us a.uid) (sym (named_is B.acts q B.committed x o.named)) ∙ on)))
        (λ on. w a i top (found_is a.uid on)) (or_which (is_on (with_named B.acts q B.committed) a.uid) (is_on B.found a.uid) is)
      where
        found_is : (u : Uid) → is_on B.found u ≡ true → is_decided B u ≡ true
        found_is u on = by_first (is_on B.committed u)
          where
            by_first : (x : Bool) → (x || is_on B.found u) ≡ true
            by_first true = refl
            by_first false = on
    by (body.Recovered n u) r a i top is = ⊎_elim (λ on. w a i top (committed_decided B a.uid on))
        (λ on. ⊎_elim (λ same. subst (λ x. is_on B.called x ≡ true) (uid_is u a.uid same) r.called) (λ was. w a i top (found_is a.uid was))
        (or_which (uid_eq u a.uid) (is_on B.found a.uid) on)) (or_which (is_on B.committed a.uid) (is_on (u ∷ B.found) a.uid) is)
      where
        found_is : (x : Uid) → is_on B.found x ≡ true → is_decided B x ≡ true
        found_is x on = by_first (is_on B.committed x)
          where
            by_first : (y : Bool) → (y || is_on B.found x) ≡ true
            by_first true = refl
            by_first false = on
    by (body.Began q k u p) r a i top is = old (body.Began q k u p) a i top is
    by (body.Committing q) r a i top is = old (body.Committing q) a i top is
    by (body.Aborted q c) r a i top is = old (body.Aborted q c) a i top is
    by (body.Ended q) r a i top is = old (body.Ended q) a i top is
    by b r a i top is = old b a i top is

-- ---- the tops

module _ (lines : List Line) (right : AreRight new_book lines) where
  abbrev calls : List (Placed (List Act))
  calls = committings lines

  abbrev the_top : Placed (List Act) → Option Top
  the_top m = top_of (committed lines) (recovered lines) m

  apart : (x a : Act) → In x (acts lines) → In a (acts lines) → (x.id == a.id) ≡ uid_eq x.uid a.uid
  apart x a i j = tells lines right a j x i

  are_calls : AreCalls (acts lines) new_book (committings lines)
  are_calls = calls_from (acts lines) apart new_book 0 lines right new_sound refl

  -- the top of a call
  abbrev top_for : Placed (List Act) → Act → Top
  top_for m a = record { id = a.id; root = root_or a.id (root_in m.it); at = m.at }

  top_is : (m : Placed (List Act)) (a : Act) → top_in m.it ≡ Some a →
      the_top m ≡ cond (is_committed (committed lines) (recovered lines) a) (Some (top_for m a)) None
  top_is m a is = ap (λ o. top_by (committed lines) (recovered lines) m o) is

  each_top : (ms : List (Placed (List Act))) → AllByRecursion (IsCall (acts lines) new_book) ms →
      AllByRecursion (IsTop lines) (filter_map the_top ms)
  each_top [] all = tt
  each_top (m ∷ ms) all = let c = all.0 in subst (λ o. AllByRecursion (IsTop lines) (cons_option o (filter_map the_top ms)))
      (sym (top_is m c.act c.is)) (by (is_committed (committed lines) (recovered lines) c.act) refl (each_top ms all.1))
    where
      by : (b : Bool) → is_committed (committed lines) (recovered lines) (let c = all.0 in c.act) ≡ b →
          AllByRecursion (IsTop lines) (filter_map the_top ms) →
          AllByRecursion (IsTop lines) (cons_option (cond b (Some (top_for m (let c = all.0 in c.act))) None) (filter_map the_top ms))
      by true is rest = let c = all.0 in
          (record { act = c.act; there = in_to c.act (acts lines) c.there; number = refl; kind = c.top; done = is }, rest)
      by false is rest = rest

  -- a top that is none of these calls' is none of their tops
  none_behind : (a : Act) (ms : List (Placed (List Act))) → AllByRecursion (IsCall (acts lines) new_book) ms →
      AllByRecursion (λ (n : Placed (List Act)). (b : Act) → top_in n.it ≡ Some b → a.id ≢ b.id) ms →
      AllByRecursion (λ (u : Top). a.id ≢ u.id) (filter_map the_top ms)
  none_behind a [] all others = tt
  none_behind a (m ∷ ms) all others = let c = all.0 in
      subst (λ o. AllByRecursion (λ (u : Top). a.id ≢ u.id) (cons_option o (filter_map the_top ms))) (sym (top_is m c.act c.is))
      (by (is_committed (committed lines) (recovered lines) c.act) (none_behind a ms all.1 others.1))
    where
      by : (b : Bool) → AllByRecursion (λ (u : Top). a.id ≢ u.id) (filter_map the_top ms) → AllByRecursion (λ (u : Top). a.id ≢ u.id)
          (cons_option (cond b (Some (top_for m (let c = all.0 in c.act))) None) (filter_map the_top ms))
      by true rest = let c = all.0 in (others.0 c.act c.is, rest)
      by false rest = rest

  tops_apart : (ms : List (Placed (List Act))) → AllByRecursion (IsCall (acts lines) new_book) ms → AreOnce ms →
      AreApart (filter_map the_top ms)
  tops_apart [] all once = tt
  tops_apart (m ∷ ms) all once = let c = all.0 in subst (λ o. AreApart (cons_option o (filter_map the_top ms))) (sym (top_is m c.act c.is))
      (by (is_committed (committed lines) (recovered lines) c.act) (tops_apart ms all.1 once.1))
    where
      by : (b : Bool) → AreApart (filter_map the_top ms) →
          AreApart (cons_option (cond b (Some (top_for m (let c = all.0 in c.act))) None) (filter_map the_top ms))
      by true rest = let c = all.0 in (
        none_behind c.act ms all.1 (all_to _ (λ (n : Placed (List Act)). (b : Act) → top_in n.it ≡ Some b →
            c.act.id ≢ b.id) ms (λ n each b is. each c.act b c.is is) once.0),
        rest,
      )
      by false rest = rest

  -- ---- each committed top is there

  -- the call of a top that was called
  its_call : (a : Act) (ms : List (Placed (List Act))) → AllByRecursion (IsCall (acts lines) new_book) ms →
      list_any (λ (m : Placed (List Act)). holds (λ (t : Act). t.id == a.id) (top_in m.it)) ms ≡ true
      → (m : Placed (List Act)) × In m ms × (x : Act) × (top_in m.it ≡ Some x) × In x (acts lines) × (x.id ≡ a.id)
  its_call a [] all is = absurd (cc is)
  its_call a (m ∷ ms) all is = let c = all.0 in ⊎_elim
      (λ here.
      (m, inl refl, c.act, c.is, c.there, eqb-true c.act.id a.id (sym (ap (λ o. holds (λ (t : Act). t.id == a.id) o) c.is) ∙ here)))
      (λ there. let r = its_call a ms all.1 there in (r.0, inr r.1, r.2, r.3, r.4, r.5))
      (or_which (holds (λ (t : Act). t.id == a.id) (top_in m.it))
      (list_any (λ (n : Placed (List Act)). holds (λ (t : Act). t.id == a.id) (top_in n.it)) ms) is)

  in_tops : (m : Placed (List Act)) (t : Top) (ms : List (Placed (List Act))) → In m ms → the_top m ≡ Some t → In t (filter_map the_top ms)
  in_tops m t [] i is = absurd i
  in_tops m t (n ∷ ms) (inl same) is = subst (λ o. In t (cons_option o (filter_map the_top ms))) (sym (ap the_top same ∙ is)) (inl refl)
  in_tops m t (n ∷ ms) (inr i) is = by (the_top n) (in_tops m t ms i is)
    where
      by : (o : Option Top) → In t (filter_map the_top ms) → In t (cons_option o (filter_map the_top ms))
      by None rest = rest
      by (Some u) rest = inr rest

  newest : (bs : List Act) (b a : Act) → AreSound (b ∷ bs) → In a bs → b.uid ≡ a.uid → ⊥
  newest bs b a s j same = let d = s.distinct in never (subst (λ w. has_act bs w ≡ true) (sym same) (among bs a j)) d.2

  same_act : (xs : List Act) → AreSound xs → (x a : Act) → In x xs → In a xs → x.uid ≡ a.uid → x ≡ a
  same_act [] s x a i j is = absurd i
  same_act (b ∷ bs) s x a (inl is) (inl js) same = sym is ∙ js
  same_act (b ∷ bs) s x a (inl is) (inr j) same = absurd (newest bs b a s j (ap (λ (y : Act). y.uid) is ∙ same))
  same_act (b ∷ bs) s x a (inr i) (inl js) same = absurd (newest bs b x s i (ap (λ (y : Act). y.uid) js ∙ sym same))
  same_act (b ∷ bs) s x a (inr i) (inr j) same = let d = s.distinct in let f = s.formed in
      same_act bs (record { distinct = d.3; formed = f.1 }) x a i j same

  -- whose commit was called has its call
  abbrev is_of : Act → List Act → Bool
  is_of a p = holds (λ (t : Act). t.id == a.id) (top_in p)

  was_called : (a : Act) → In a (acts lines) → is_on (let B = book lines in B.called) a.uid ≡ true →
      list_any (λ (m : Placed (List Act)). is_of a m.it) (committings lines) ≡ true
  was_called a there called =
      let read_so : (list_any (λ (m : Placed (List Act)). is_of a m.it) (committings lines) || false) ≡ is_on (let B = book lines in
      B.called) a.uid = reads a committing_of (is_of a) (λ B. is_on B.called a.uid) (called_step a) new_book 0 lines right new_sound
      (tells lines right a there) in
      sym (or_none (list_any (λ (m : Placed (List Act)). is_of a m.it) (committings lines))) ∙ read_so ∙ called

  done_too : (x a : Act) → In x (acts lines) → x.uid ≡ a.uid → is_decided (book lines) a.uid ≡ true → IsDone lines x
  done_too x a there same decided = its_decision lines right x there ∙ ap (is_decided (book lines)) same ∙ decided

  its_top : (m : Placed (List Act)) (x : Act) → top_in m.it ≡ Some x → is_committed (committed lines) (recovered lines) x ≡ true →
      the_top m ≡ Some (top_for m x)
  its_top m x is done = top_is m x is ∙ ap (λ b. cond b (Some (top_for m x)) None) done

  all_tops : (a : Act) → In a (acts lines) → is_top a.kind ≡ true → IsDone lines a → (t : Top) × In t (tops lines) × (t.id ≡ a.id)
  all_tops a there top done =
      let decided : is_decided (book lines) a.uid ≡ true = sym (its_decision lines right a there) ∙ done in
      let s = its_sound lines right in
      let called : is_on (let B = book lines in B.called) a.uid ≡ true = called_lines (acts lines) apart (λ x y i j same. ap (λ (z : Act).
      z.kind) (same_act (acts lines) s x y i j same)) new_book lines right refl (λ x i t is. absurd (cc is)) a there top decided in
      let any = was_called a there called in
      let c = are_calls in
      let r = its_call a (committings lines) c.each any in
      let x = r.2 in
      let same : (x.id == a.id) ≡ true = ap (λ i. i == a.id) r.5 ∙ eq-eqb a.id a.id refl in
      let uid : x.uid ≡ a.uid = uid_is x.uid a.uid (sym (apart x a r.4 there) ∙ same) in
      let is_done : is_committed (committed lines) (recovered lines) x ≡ true = done_too x a r.4 uid decided in
      (top_for r.0 x, in_tops r.0 (top_for r.0 x) (committings lines) r.1 (its_top r.0 x r.3 is_done), r.5)

  are_tops : AreItsTops lines
  are_tops = let c = are_calls in record {
    each = each_top (committings lines) c.each;
    apart = tops_apart (committings lines) c.each c.once;
    all = λ a there top done. let t = all_tops a (in_from a (acts lines) there) top done in (t.0, in_to t.0 (tops lines) t.1, t.2);
  }

pub is_sound : (lines : List Line) → AreRight new_book lines → IsSound lines
is_sound lines right = record {
  reads = is_book lines right;
  distinct = let s = its_sound lines right in s.distinct;
  formed = let s = its_sound lines right in s.formed;
  causes = caused lines right;
  once = ended_once lines right;
  outcomes = one_outcome lines right;
  listed = are_tops lines right;
  calls = calls_timely lines right;
  exclusions = exclusions_timely lines right;
  commits = commits_called lines right;
}
