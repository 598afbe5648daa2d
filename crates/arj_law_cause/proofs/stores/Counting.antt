-- How many committed tops have written an object: more, behind the line by which one more does.
use Rattle.arj_law.proofs.JoinedCalls.{path_all, read_all, top_all}
use Rattle.arj_law_parts.proofs.Words
use Words.{◌≡◌, ◌∙◌, ◌+◌, ◌<◌, ◌==◌, ◌&&◌, ◌||◌, ◌++◌, not, ℕ, suc, Bool, true, false, cond, List, [], ◌∷◌, filter, Option, Some, None}
use Words.{refl, sym, ap, subst, inl, inr, arith, AllByRecursion, and_parts, cons_option, eqb-true, eq-eqb, filter_map, list_all, list_any}
use Words.{uid_eq, In, in_filter, in_filter_map, Body, Line, Uid, name}
use Words.body
use Rattle.arj_law_runs.proofs.Terms.{Act, Placed, acts, acts_after, put, read}
use Rattle.arj_law_runs.proofs.journal.Models.{its_decision}
use Rattle.arj_law_runs.specs.journal.Book.{book, is_decided, new_book}
use Rattle.arj_law_runs.specs.journal.Right.{AreRight}
use Rattle.arj_law_serial.proofs.order.Order.{off_one, same_number}
use Rattle.arj_model.specs.Actions.{chain_in, committed, committed_of, has_end, is_committed, path, recovered, recovered_of, top_in}
use Rattle.arj_model.specs.Calls.{Call, Said, call_of, committed_calls, ids, kept, kept_in, made, made_by, made_in, said, said_of}
use Rattle.arj_model.specs.Calls.{surviving}
use Rattle.arj_model.specs.CauseSpans.{holds_in}
use Rattle.arj_model.specs.Last.{count_tops, writes_of}
use Rattle.arj_model.specs.Serial.{arrange, insert, serial_calls, serial_less, writes_on}
use Rattle.arj_model.specs.Calls.{tops}
use Rattle.arj_law_cause.proofs.kinds.{Asking.all_later, Asking.any_later, Over.or_later, Over.read_later}
use Rattle.arj_law_cause.proofs.votes.Growing.{any_filtered, any_made}
use Rattle.arj_law_cause.proofs.waits.waiting.Lists.{any_in, some_in}

-- ---- tops that made these calls

-- the top with this number made one of the calls
abbrev pub has_top : ℕ → List Call → Bool
has_top n cs = list_any (λ (d : Call). d.top == n) cs

-- the calls of other tops
abbrev others : ℕ → List Call → List Call
others n cs = filter (λ (d : Call). not (d.top == n)) cs

other_there : (n m : ℕ) → (n ≡ m → ⊥) → (cs : List Call) → has_top m (others n cs) ≡ has_top m cs
other_there n m apart [] = refl
other_there n m apart (c ∷ cs) = by (c.top == n) refl (other_there n m apart cs)
  where
    by : (b : Bool) → (c.top == n) ≡ b → has_top m (others n cs) ≡ has_top m cs →
        has_top m (cond (not b) (c ∷ others n cs) (others n cs)) ≡ ((c.top == m) || has_top m cs)
    by true is ih = ih ∙ (λ i. sym (off_one c.top m (λ e. apart (sym (eqb-true c.top n is) ∙ e))) i || has_top m cs)
    by false is ih = ap (λ b. (c.top == m) || b) ih

none_other : (n : ℕ) (cs : List Call) → has_top n cs ≡ false → others n cs ≡ cs
none_other n [] none = refl
none_other n (c ∷ cs) none = by (c.top == n) none (none_other n cs)
  where
    by : (b : Bool) → (b || has_top n cs) ≡ false → (has_top n cs ≡ false → others n cs ≡ cs) →
        cond (not b) (c ∷ others n cs) (others n cs) ≡ c ∷ cs
    by true is ih = absurd (cc is)
    by false is ih = ap (λ ds. c ∷ ds) (ih is)

more : (n : ℕ) → n + 1 ≡ suc n
more n = omega arith

-- one top less
one_less : (n : ℕ) (cs : List Call) → has_top n cs ≡ true → count_tops cs ≡ suc (count_tops (others n cs))
one_less n [] is = absurd (cc is)
one_less n (c ∷ cs) is = by (c.top == n) refl is (one_less n cs)
  where
    by : (b : Bool) → (c.top == n) ≡ b → (b || has_top n cs) ≡ true →
        (has_top n cs ≡ true → count_tops cs ≡ suc (count_tops (others n cs))) →
        cond (has_top c.top cs) (count_tops cs) (count_tops cs + 1) ≡ suc (count_tops (cond (not b) (c ∷ others n cs) (others n cs)))
    by true same on ih = ap (λ b. cond b (count_tops cs) (count_tops cs + 1)) (ap (λ m. has_top m cs) (eqb-true c.top n same))
        ∙ mine (has_top n cs) refl
      where
        mine : (b : Bool) → has_top n cs ≡ b → cond b (count_tops cs) (count_tops cs + 1) ≡ suc (count_tops (others n cs))
        mine true there = ih there
        mine false none = more (count_tops cs) ∙ ap (λ ds. suc (count_tops ds)) (sym (none_other n cs none))
    by false apart on ih = its (has_top c.top cs) refl
      where
        off : n ≡ c.top → ⊥
        off e = let no_way : true ≡ false = sym (eq-eqb c.top n (sym e)) ∙ apart in cc no_way

        its : (b : Bool) → has_top c.top cs ≡ b → cond b (count_tops cs) (count_tops cs + 1)
            ≡ suc (cond (has_top c.top (others n cs)) (count_tops (others n cs)) (count_tops (others n cs) + 1))
        its true there = ih on ∙ ap suc (λ i. cond (sym (other_there n c.top off cs ∙ there) i) (count_tops (others n cs))
            (count_tops (others n cs) + 1))
        its false none = ap (λ m. m + 1) (ih on) ∙ sum (count_tops (others n cs))
            ∙ ap suc (λ i. cond (sym (other_there n c.top off cs ∙ none) i) (count_tops (others n cs)) (count_tops (others n cs) + 1))
          where
            sum : (k : ℕ) → suc k + 1 ≡ suc (k + 1)
            sum k = omega arith

-- fewer tops made the calls of which each top made some of those, and one more did
pub fewer : (cs ds : List Call) (q : ℕ) → ((m : ℕ) → has_top m cs ≡ true → has_top m ds ≡ true) → has_top q ds ≡ true →
    has_top q cs ≡ false → count_tops cs < count_tops ds
fewer [] ds q all there none = let n = one_less q ds there in omega (arith, n)
fewer (c ∷ cs) ds q all there none = by (has_top c.top cs) refl (λ es to on off. fewer cs es q to on off)
  where
    apart : ((c.top == q) ≡ false) × (has_top q cs ≡ false)
    apart = off (c.top == q) (has_top q cs) none
      where
        off : (x y : Bool) → (x || y) ≡ false → (x ≡ false) × (y ≡ false)
        off true y e = absurd (cc e)
        off false y e = (refl, e)

    self : (c.top == c.top) ≡ true
    self = eq-eqb c.top c.top refl

    last : (b x : Bool) → x ≡ true → (b || x) ≡ true
    last true x is = refl
    last false x is = is

    by : (b : Bool) → has_top c.top cs ≡ b → ((es : List Call) → ((m : ℕ) → has_top m cs ≡ true → has_top m es ≡ true) →
        has_top q es ≡ true → has_top q cs ≡ false → count_tops cs < count_tops es) →
        cond b (count_tops cs) (count_tops cs + 1) < count_tops ds
    by true e ih = ih ds (λ m is. all m (last (c.top == m) (has_top m cs) is)) there apart.1
    by false e ih =
        let rest = others c.top ds in
        let one = one_less c.top ds (all c.top (λ i. self i || has_top c.top cs)) in
        let less = ih rest (λ m is. other_there c.top m
        (λ same. let no_way : true ≡ false = sym is ∙ ap (λ k. has_top k cs) (sym same) ∙ e in cc no_way) ds
        ∙ all m (last (c.top == m) (has_top m cs) is))
        (other_there c.top q (λ same. let no_way : true ≡ false = sym (eq-eqb c.top q same) ∙ apart.0 in cc no_way) ds ∙ there) apart.1 in
        sum (count_tops cs) (count_tops rest) (count_tops ds) one less
      where
        sum : (a b d : ℕ) → d ≡ suc b → a < b → a + 1 < d
        sum a b d one less = omega (arith, one, less)

-- ---- the writes of a journal

any_insert : {A : Type 0} (f : A → Bool) (less : A → A → Bool) (a : A) (xs : List A) →
    list_any f (insert less a xs) ≡ (f a || list_any f xs)
any_insert f less a [] = refl
any_insert {A} f less a (x ∷ xs) = by (less x a) (any_insert f less a xs)
  where
    turn : (p q r : Bool) → (p || (q || r)) ≡ (q || (p || r))
    turn true true r = refl
    turn true false r = refl
    turn false true r = refl
    turn false false r = refl

    by : (b : Bool) → list_any f (insert less a xs) ≡ (f a || list_any f xs) →
        list_any f (cond b (x ∷ insert less a xs) (a ∷ x ∷ xs)) ≡ (f a || (f x || list_any f xs))
    by true ih = ap (λ b. f x || b) ih ∙ turn (f x) (f a) (list_any f xs)
    by false ih = refl

any_arrange : {A : Type 0} (f : A → Bool) (less : A → A → Bool) (xs : List A) → list_any f (arrange less xs) ≡ list_any f xs
any_arrange f less [] = refl
any_arrange f less (x ∷ xs) = any_insert f less x (arrange less xs) ∙ ap (λ b. f x || b) (any_arrange f less xs)

-- the call is a write of this top on the object
abbrev writes_for : ℕ → ℕ → Call → Bool
writes_for x n c = writes_on x c && (c.top == n)

writers_are : (lines : List Line) (x n : ℕ) → has_top n (writes_of lines x) ≡ list_any (writes_for x n) (committed_calls lines)
writers_are lines x n = any_filtered (λ (c : Call). c.top == n) (writes_on x) (serial_calls lines)
    ∙ any_arrange (writes_for x n) (serial_less (tops lines)) (committed_calls lines)

-- a top that wrote is among those who did by more lines
pub writer_later : (ls ms : List Line) (x n : ℕ) → has_top n (writes_of ls x) ≡ true → has_top n (writes_of (ls ++ ms) x) ≡ true
writer_later ls ms x n is = writers_are (ls ++ ms) x n
    ∙ any_made (writes_for x n) (kept (committed (ls ++ ms)) (recovered (ls ++ ms))) (said (ls ++ ms))
    ∙ any_later (was ls) (was (ls ++ ms)) (λ s on. by s (top_in s.it.path) on) (said (ls ++ ms))
    (read_later said_of (was ls) [] 0 ls ms (sym (any_made (writes_for x n) (kept (committed ls) (recovered ls)) (said ls))
    ∙ sym (writers_are ls x n) ∙ is))
  where
    was : List Line → Placed Said → Bool
    was lines s = holds_in (writes_for x n) (kept (committed lines) (recovered lines) s)

    ends : (id : ℕ) → has_end (committed ls) id ≡ true → has_end (committed (ls ++ ms)) id ≡ true
    ends id on = read_later committed_of (λ (e : Placed ℕ). e.it == id) [] 0 ls ms on

    done : (a : Act) → is_committed (committed ls) (recovered ls) a ≡ true →
        is_committed (committed (ls ++ ms)) (recovered (ls ++ ms)) a ≡ true
    done a on = or_later (has_end (committed ls) a.id) (list_any (λ (u : Placed Uid). uid_eq u.it a.uid) (recovered ls))
        (has_end (committed (ls ++ ms)) a.id) (list_any (λ (u : Placed Uid). uid_eq u.it a.uid) (recovered (ls ++ ms))) (ends a.id)
        (read_later recovered_of (λ (u : Placed Uid). uid_eq u.it a.uid) [] 0 ls ms) on

    by : (s : Placed Said) (o : Option Act) → holds_in (writes_for x n) (kept_in (committed ls) (recovered ls) s o) ≡ true →
        holds_in (writes_for x n) (kept_in (committed (ls ++ ms)) (recovered (ls ++ ms)) s o) ≡ true
    by s None on = absurd (cc on)
    by s (Some t) on = one (list_all (λ (a : Act). has_end (committed ls) a.id) (chain_in s.it.path)) refl
        (is_committed (committed ls) (recovered ls) t) refl on
      where
        one : (p : Bool) → list_all (λ (a : Act). has_end (committed ls) a.id) (chain_in s.it.path) ≡ p →
            (q : Bool) → is_committed (committed ls) (recovered ls) t ≡ q →
            holds_in (writes_for x n) (cond (p && q) (Some (call_of s t)) None) ≡ true →
            holds_in (writes_for x n) (kept_in (committed (ls ++ ms)) (recovered (ls ++ ms)) s (Some t)) ≡ true
        one true below true top k =
            (λ i. holds_in (writes_for x n) (cond (all_later (λ (a : Act). has_end (committed ls) a.id)
            (λ (a : Act). has_end (committed (ls ++ ms)) a.id) (λ a. ends a.id) (chain_in s.it.path) below i && done t top i)
            (Some (call_of s t)) None)) ∙ k
        one true below false top k = absurd (cc k)
        one false below q top k = absurd (cc k)

-- ---- calls that survive

made_of : {A B : Type 0} (f : A → Option B) (x : A) (y : B) (xs : List A) → In x xs → f x ≡ Some y → In y (filter_map f xs)
made_of f x y [] i e = absurd i
made_of f x y (z ∷ xs) (inl is) e = subst (λ o. In y (cons_option o (filter_map f xs))) (sym (ap f is ∙ e)) (inl refl)
made_of {A} {B} f x y (z ∷ xs) (inr i) e = by (f z) (made_of f x y xs i e)
  where
    by : (o : Option B) → In y (filter_map f xs) → In y (cons_option o (filter_map f xs))
    by None j = j
    by (Some w) j = inr j

in_more : {A : Type 0} (f : List Act → Body → Option A) (us : List Act) (n : ℕ) (ls ms : List Line) (s : Placed A) → In s (read f us n ls) →
    In s (read f us n (ls ++ ms))
in_more f us n [] ms s i = absurd i
in_more {A} f us n (l ∷ ls) ms s i = by (f us l.body) i (in_more f (acts_after us l.body) (n + 1) ls ms s)
  where
    by : (o : Option A) → In s (put n o (read f (acts_after us l.body) (n + 1) ls)) →
        (In s (read f (acts_after us l.body) (n + 1) ls) → In s (read f (acts_after us l.body) (n + 1) (ls ++ ms))) →
        In s (put n o (read f (acts_after us l.body) (n + 1) (ls ++ ms)))
    by None j ih = ih j
    by (Some a) (inl same) ih = inl same
    by (Some a) (inr j) ih = inr (ih j)

all_of_ids : (p : ℕ → Bool) (path : List Act) → list_all p (ids path) ≡ list_all (λ (a : Act). p a.id) path
all_of_ids p [] = refl
all_of_ids p (a ∷ path) = ap (λ b. p a.id && b) (all_of_ids p path)

-- a surviving call of a top that commits behind these lines is one of a committed top
pub survives_on : (ls ms : List Line) (id : ℕ) → has_end (committed (ls ++ ms)) id ≡ true → (c : Call) → In c (surviving ls id) →
    In c (committed_calls (ls ++ ms)) × (c.top ≡ id)
survives_on ls ms id ended c i = (by (top_in found.0.it.path) refl made_so, top)
  where
    first : In c (made_by ls id) × (list_all (has_end (committed ls)) c.chain ≡ true)
    first = in_filter (λ (d : Call). list_all (has_end (committed ls)) d.chain) c (made_by ls id) i

    second : In c (made ls) × ((c.top == id) ≡ true)
    second = in_filter (λ (d : Call). d.top == id) c (made ls) first.0

    top : c.top ≡ id
    top = eqb-true c.top id second.1

    found : (z : Placed Said) × In z (said ls) × (made_in z (top_in z.it.path) ≡ Some c)
    found = in_filter_map (λ (z : Placed Said). made_in z (top_in z.it.path)) c (said ls) second.0

    made_so : made_in found.0 (top_in found.0.it.path) ≡ Some c
    made_so = found.2

    by : (o : Option Act) → top_in found.0.it.path ≡ o → made_in found.0 o ≡ Some c → In c (committed_calls (ls ++ ms))
    by None none is = absurd (cc is)
    by (Some t) some is = made_of (kept (committed (ls ++ ms)) (recovered (ls ++ ms))) found.0 c (said (ls ++ ms))
        (in_more said_of [] 0 ls ms found.0 found.1)
        (ap (kept_in (committed (ls ++ ms)) (recovered (ls ++ ms)) found.0) some
        ∙ (λ j. cond (below j && mine j) (Some (call_of found.0 t)) None) ∙ is)
      where
        its : call_of found.0 t ≡ c
        its = let e : ◌≡◌ {A = Option Call} (Some (call_of found.0 t)) (Some c) = is in cc e

        below : list_all (λ (a : Act). has_end (committed (ls ++ ms)) a.id) (chain_in found.0.it.path) ≡ true
        below = all_later (λ (a : Act). has_end (committed ls) a.id) (λ (a : Act). has_end (committed (ls ++ ms)) a.id)
            (λ a on. read_later committed_of (λ (e : Placed ℕ). e.it == a.id) [] 0 ls ms on) (chain_in found.0.it.path)
            (sym (all_of_ids (has_end (committed ls)) (chain_in found.0.it.path))
            ∙ ap (λ (d : Call). list_all (has_end (committed ls)) d.chain) its
            ∙ first.1)

        mine : is_committed (committed (ls ++ ms)) (recovered (ls ++ ms)) t ≡ true
        mine = (λ j. has_end (committed (ls ++ ms)) ((ap (λ (d : Call). d.top) its ∙ top) j)
            || list_any (λ (u : Placed Uid). uid_eq u.it t.uid) (recovered (ls ++ ms)))
            ∙ (λ j. ended j || list_any (λ (u : Placed Uid). uid_eq u.it t.uid) (recovered (ls ++ ms)))

-- so it is one of those who wrote
pub wrote_now : (lines : List Line) (x : ℕ) (c : Call) → In c (committed_calls lines) → writes_on x c ≡ true →
    has_top c.top (writes_of lines x) ≡ true
wrote_now lines x c i on = writers_are lines x c.top
    ∙ any_in (writes_for x c.top) (committed_calls lines) c i (λ j. on j && eq-eqb c.top c.top refl j)

-- ---- who isn't committed has made no such call

read_there : {A : Type 0} (Q : A → Type 0) (ss : List (Placed A)) (n : ℕ) → AllByRecursion (λ (s : Placed A). (s.at < n) × Q s.it) ss →
    (s : Placed A) → In s ss → Q s.it
read_there Q [] n all s i = absurd i
read_there {A} Q (z ∷ ss) n all s (inl same) = subst (λ (y : Placed A). Q y.it) same all.0.1
read_there Q (z ∷ ss) n all s (inr i) = read_there Q ss n all.1 s i

all_in : (xs us : List Act) → ((a : Act) → In a xs → In a us) → AllByRecursion (λ (a : Act). In a us) xs
all_in [] us to = tt
all_in (x ∷ xs) us to = (to x (inl refl), all_in xs us (λ a i. to a (inr i)))

-- the top of a call began by these lines
top_there : (lines : List Line) (s : Placed Said) → In s (said lines) → (t : Act) → top_in s.it.path ≡ Some t → In t (acts lines)
top_there lines s i t is =
    top_all (λ (a : Act). In a (acts lines)) s.it.path t (read_there (λ (z : Said). AllByRecursion (λ (a : Act). In a (acts lines)) z.path)
    (said lines) _ (read_all (λ (a : Act). In a (acts lines)) (λ (z : Said). AllByRecursion (λ (a : Act). In a (acts lines)) z.path) said_of
    each [] 0 lines (all_in (acts lines) (acts lines) (λ a j. j))) s i) is
  where
    each : (us : List Act) (b : Body) (z : Said) → AllByRecursion (λ (a : Act). In a (acts lines)) us → said_of us b ≡ Some z →
        AllByRecursion (λ (a : Act). In a (acts lines)) z.path
    each us (body.Ok l x op answer) z all e =
        let same : record { path = path us (name l); x = x; op = op; answer = answer } ≡ z = (let k : ◌≡◌ {A = Option Said}
        (Some (record { path = path us (name l); x = x; op = op; answer = answer })) (Some z) = e in cc k) in
        subst (λ (y : Said). AllByRecursion (λ (a : Act). In a (acts lines)) y.path) same
        (path_all (λ (a : Act). In a (acts lines)) us (name l) all)
    each us b z all e = absurd (cc e)

pub wrote_not : (lines : List Line) → AreRight new_book lines → (a : Act) → In a (acts lines) → is_decided (book lines) a.uid ≡ false →
    (x : ℕ) → has_top a.id (writes_of lines x) ≡ false
wrote_not lines right a there undone x = by (has_top a.id (writes_of lines x)) refl
  where
    never : has_top a.id (writes_of lines x) ≡ true → ⊥
    never is =
        let c = some_in (writes_for x a.id) (committed_calls lines) (sym (writers_are lines x a.id) ∙ is) in
        let p = and_parts (writes_on x c.0) (c.0.top == a.id) c.2 in
        let f = in_filter_map (kept (committed lines) (recovered lines)) c.0 (said lines) c.1 in
        top f.0 f.1 c.0 (eqb-true c.0.top a.id p.1) (top_in f.0.it.path) refl f.2
      where
        top : (s : Placed Said) → In s (said lines) → (c : Call) → c.top ≡ a.id → (o : Option Act) → top_in s.it.path ≡ o →
            kept_in (committed lines) (recovered lines) s o ≡ Some c → ⊥
        top s i c same None none e = cc e
        top s i c same (Some t) some e = one (list_all (λ (b : Act). has_end (committed lines) b.id) (chain_in s.it.path))
            (is_committed (committed lines) (recovered lines) t) refl e
          where
            one : (p q : Bool) → is_committed (committed lines) (recovered lines) t ≡ q →
                cond (p && q) (Some (call_of s t)) None ≡ Some c → ⊥
            one true true done k =
                let its : call_of s t ≡ c = (let z : ◌≡◌ {A = Option Call} (Some (call_of s t)) (Some c) = k in cc z) in
                let it : t ≡ a = same_number lines right t a (top_there lines s i t some) there (ap (λ (d : Call). d.top) its ∙ same) in
                let no_way : true ≡ false = sym done ∙ ap (is_committed (committed lines) (recovered lines)) it
                ∙ its_decision lines right a there ∙ undone in cc no_way
            one true false done k = cc k
            one false q done k = cc k

    by : (b : Bool) → has_top a.id (writes_of lines x) ≡ b → b ≡ false
    by true is = absurd (never is)
    by false is = refl
