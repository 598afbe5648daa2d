-- Effects behind one another, and what a coordinator's step has to show.
use Rattle.arj_law_parts.proofs.Words
use Words.{◌≡◌, arith, ℕ, suc, List, [], ◌∷◌, ◌++◌, length, Bool, Option, Some, None, map, refl, sym, ◌∙◌, ap, subst, inl, inr}
use Words.{AllByRecursion, cons_option, flat_map, In, Uid, Ask, Asked, Body, End, Head, Label, Message, request, Reply, response, Coord}
use Words.{Doing, doing_of, Effect, Say, Send, Do, Look, PutInc, Prepare, Commit, Abort, PutIntent, RemoveIntent, say_for, says, tell}
use Words.{tell_all}
use Words.ask
use Words.body
use Words.ending
use Words.message
use Rattle.arj_law_runs.proofs.Terms
use Terms.{brought, told_by, Book, turned, AreIdle, AreLate, AreLined, AreSaid, Calls, Claims, HasBranch, IsLined, Knows, Puts, ends_in}
use Terms.{decides, IsSaid}
use Rattle.arj_law_runs.proofs.journal.Books.{Later, decided_later, later_on, later_same, later_turn}
use Rattle.arj_law_runs.specs.journal.Knows.{IsIdle, after, turned_by}

-- ---- lists

pub all_both : {A : Type 0} (P : A → Type 0) (xs ys : List A) → AllByRecursion P xs → AllByRecursion P ys → AllByRecursion P (xs ++ ys)
all_both P [] ys a b = b
all_both P (x ∷ xs) ys a b = (a.0, all_both P xs ys a.1 b)

pub all_map : {A B : Type 0} (P : B → Type 0) (f : A → B) (xs : List A) → ((x : A) → In x xs → P (f x)) → AllByRecursion P (map f xs)
all_map P f [] each = tt
all_map P f (x ∷ xs) each = (each x (inl refl), all_map P f xs (λ y i. each y (inr i)))

pub all_flat : {A B : Type 0} (P : B → Type 0) (f : A → List B) (xs : List A) → ((x : A) → In x xs → AllByRecursion P (f x)) →
    AllByRecursion P (flat_map f xs)
all_flat P f [] each = tt
all_flat P f (x ∷ xs) each = all_both P (f x) (flat_map f xs) (each x (inl refl)) (all_flat P f xs (λ y i. each y (inr i)))

pub all_to : {A : Type 0} (P Q : A → Type 0) (xs : List A) → ((x : A) → P x → Q x) → AllByRecursion P xs → AllByRecursion Q xs
all_to P Q [] each all = tt
all_to P Q (x ∷ xs) each all = (each x all.0, all_to P Q xs each all.1)

-- ---- commits that are decided

pub said_later : (B V : Book) → Later B V → (u : Uid) (e : End) → IsSaid B u e → IsSaid V u e
said_later B V l u ending.Commit is = decided_later B V l u is
said_later B V l u ending.Abort is = tt

pub are_later : (B V : Book) → Later B V → (ends : List (Uid × End)) → AreSaid B ends → AreSaid V ends
are_later B V l ends all =
    all_to (λ (e : Uid × End). IsSaid B e.0 e.1) (λ (e : Uid × End). IsSaid V e.0 e.1) ends (λ e is. said_later B V l e.0 e.1 is) all

pub claims_later : (B V : Book) → Later B V → (m : Message) → Claims B m → Claims V m
claims_later B V l m c = (are_later B V l (brought m) c.0, are_later B V l (told_by m) c.1)

-- a request brings its ends
pub request_claims : (B : Book) (h : Head) (a : Ask) → AreSaid B (ends_in a) → Claims B (request h a)
request_claims B h (ask.Bind x i avoid) s = (tt, tt)
request_claims B h (ask.Load x) s = (tt, tt)
request_claims B h (ask.Activate b st) s = (tt, tt)
request_claims B h (ask.Record x b i g) s = (tt, tt)
request_claims B h (ask.Invoke x b i ends o) s = (s, tt)
request_claims B h (ask.Vote i ties ends) s = (s, tt)
request_claims B h (ask.Prepare states) s = (tt, tt)
request_claims B h (ask.Confirm g e i) s = (tt, tt)

-- an answer brings none
pub response_claims : (B : Book) (a : Asked) (r : Reply) → Claims B (response a r)
response_claims B a (Reply.Bound r) = (tt, tt)
response_claims B a (Reply.Loaded r) = (tt, tt)
response_claims B a (Reply.Activated r) = (tt, tt)
response_claims B a (Reply.Noted r) = (tt, tt)
response_claims B a (Reply.Invoked r) = (tt, tt)
response_claims B a (Reply.Voted r) = (tt, tt)
response_claims B a (Reply.Prepared r) = (tt, tt)
response_claims B a (Reply.Confirmed r) = (tt, tt)

-- ---- effects behind one another

pub after_both : (B : Book) (es fs : List Effect) → after B (es ++ fs) ≡ after (after B es) fs
after_both B [] fs = refl
after_both B (e ∷ es) fs = after_both (turned_by B e) es fs

pub lined_both : (k : ℕ) (B : Book) (es fs : List Effect) → AreLined k B es → AreLined k (after B es) fs → AreLined k B (es ++ fs)
lined_both k B [] fs a b = b
lined_both k B (e ∷ es) fs a b = (a.0, lined_both k (turned_by B e) es fs a.1 b)

later_by : (B : Book) (e : Effect) → Later B (turned_by B e)
later_by B (Say b) = later_turn B b
later_by B (Send to m) = later_same B
later_by B (Do w) = later_same B

pub later_after : (B : Book) (es : List Effect) → Later B (after B es)
later_after B [] = later_same B
later_after B (e ∷ es) = later_on B (turned_by B e) (after B (e ∷ es)) (later_by B e) (later_after (turned_by B e) es)

puts_later : (B V : Book) → Later B V → (e : Effect) → Puts B e → Puts V e
puts_later B V l (Say b) p = tt
puts_later B V l (Send to m) p = tt
puts_later B V l (Do Look) p = tt
puts_later B V l (Do (PutInc i)) p = tt
puts_later B V l (Do (Prepare r u states)) p = tt
puts_later B V l (Do (Commit r u)) p = tt
puts_later B V l (Do (Abort r u)) p = tt
puts_later B V l (Do (PutIntent u i)) p = decided_later B V l u p
puts_later B V l (Do (RemoveIntent u)) p = tt

-- an effect that the book doesn't turn on
pub record IsPartly (k : ℕ) (B : Book) (e : Effect) : Type 0 where
  pub lined : IsLined k B e
  pub same : turned_by B e ≡ B
  pub puts : Puts B e

abbrev pub ArePartly : ℕ → Book → List Effect → Type 0
ArePartly k B es = AllByRecursion (IsPartly k B) es

pub partly_after : (k : ℕ) (B : Book) (es : List Effect) → ArePartly k B es → after B es ≡ B
partly_after k B [] all = refl
partly_after k B (e ∷ es) all = let p = all.0 in ap (λ X. after X es) p.same ∙ partly_after k B es all.1

pub partly_lined : (k : ℕ) (B : Book) (es : List Effect) → ArePartly k B es → AreLined k B es
partly_lined k B [] all = tt
partly_lined k B (e ∷ es) all = let p = all.0 in (p.lined, subst (λ X. AreLined k X es) (sym p.same) (partly_lined k B es all.1))

-- ---- lines that decide

no_longer : {A : Type 0} {P : Type 0} (x : A) (xs : List A) → x ∷ xs ≡ xs → P
no_longer x xs is = let longer : suc (length xs) ≡ length xs = ap length is in absurd (omega (arith, longer))

-- a line on which the book doesn't turn decides nobody
undeciding : (B : Book) (b : Body) (u : Uid) → turned B b ≡ B → decides B b ≡ Some u → ⊥
undeciding B (body.Committed l) u same is =
    no_longer u B.committed ((λ i. cons_option (sym is i) B.committed) ∙ ap (λ (X : Book). X.committed) same)
undeciding B (body.Recovered n w) u same is = no_longer w B.found (ap (λ (X : Book). X.found) same)
undeciding B (body.Began l h w p) u same is = cc is
undeciding B (body.Committing l) u same is = cc is
undeciding B (body.Aborted l c) u same is = cc is
undeciding B (body.Ended l) u same is = cc is
undeciding B b u same is = cc is

late_partly : (Q : Uid → Type 0) (k : ℕ) (B : Book) (es : List Effect) → ArePartly k B es → AreLate Q B es
late_partly Q k B [] all = tt
late_partly Q k B (Say b ∷ es) all = let p = all.0 in
    ((λ u is. absurd (undeciding B b u p.same is)), subst (λ X. AreLate Q X es) (sym p.same) (late_partly Q k B es all.1))
late_partly Q k B (Send to m ∷ es) all = late_partly Q k B es all.1
late_partly Q k B (Do w ∷ es) all = late_partly Q k B es all.1

late_behind : (Q : Uid → Type 0) (k : ℕ) (B : Book) (es fs : List Effect) → ArePartly k B es → AreLate Q B fs → AreLate Q B (es ++ fs)
late_behind Q k B [] fs all late = late
late_behind Q k B (Say b ∷ es) fs all late = let p = all.0 in
    ((λ u is. absurd (undeciding B b u p.same is)), subst (λ X. AreLate Q X (es ++ fs)) (sym p.same) (late_behind Q k B es fs all.1 late))
late_behind Q k B (Send to m ∷ es) fs all late = late_behind Q k B es fs all.1 late
late_behind Q k B (Do w ∷ es) fs all late = late_behind Q k B es fs all.1 late

late_before : (Q : Uid → Type 0) (B : Book) (es fs : List Effect) → AreLate Q B es → AreLate Q (after B es) fs → AreIdle fs →
    AreLate Q B (es ++ fs)
late_before Q B [] fs late more idle = more
late_before Q B (Say b ∷ es) fs late more idle =
    ((λ u is. let h = late.0 u is in (h.0, all_both IsIdle es fs h.1 idle)), late_before Q (turned B b) es fs late.1 more idle)
late_before Q B (Send to m ∷ es) fs late more idle = late_before Q B es fs late more idle
late_before Q B (Do w ∷ es) fs late more idle = late_before Q B es fs late more idle

pub tells_idle : (root : Uid) (ack : Bool) (ends : List (Uid × End)) (nodes : List ℕ) → AreIdle (tell_all root ack ends nodes)
tells_idle root ack ends [] = tt
tells_idle root ack ends (n ∷ ns) = (tt, tells_idle root ack ends ns)

-- ---- a coordinator's step

-- The effects are lined, no action begins, the coordinator knows the book after them, records are of who is decided then, and who
-- is decided is one of these.
pub record GoesBy (Q : Uid → Type 0) (k : ℕ) (B : Book) (outs : List Effect) (v : Coord) : Type 0 where
  pub lined : AreLined k B outs
  pub knows : Knows (after B outs) v
  pub calls : Calls (after B outs) v
  pub puts : AllByRecursion (Puts (after B outs)) outs
  pub acts : (let V = after B outs in V.acts) ≡ B.acts
  pub late : AreLate Q B outs

abbrev pub Goes : ℕ → Book → List Effect → Coord → Type 0
Goes k B outs v = GoesBy (HasBranch v) k B outs v

pub goes_partly : (k : ℕ) (B : Book) (outs : List Effect) (v : Coord) → ArePartly k B outs → Knows B v → Calls B v → Goes k B outs v
goes_partly k B outs v all knows calls =
    let same = sym (partly_after k B outs all) in
    record {
      lined = partly_lined k B outs all;
      knows = subst (λ X. Knows X v) same knows;
      calls = subst (λ X. Calls X v) same calls;
      puts = subst (λ X. AllByRecursion (Puts X) outs) same (all_to (IsPartly k B) (Puts B) outs (λ e p. p.puts) all);
      acts = ap (λ (X : Book). X.acts) (partly_after k B outs all);
      late = late_partly (HasBranch v) k B outs all;
    }

-- behind effects that the book doesn't turn on
pub goes_behind : {Q : Uid → Type 0} (k : ℕ) (B : Book) (es fs : List Effect) (v : Coord) → ArePartly k B es → GoesBy Q k B fs v →
    GoesBy Q k B (es ++ fs) v
goes_behind {Q} k B es fs v all g =
    let same = partly_after k B es all in
    let end : after B (es ++ fs) ≡ after B fs = after_both B es fs ∙ ap (λ X. after X fs) same in
    record {
      lined = lined_both k B es fs (partly_lined k B es all) (subst (λ X. AreLined k X fs) (sym same) g.lined);
      knows = subst (λ X. Knows X v) (sym end) g.knows;
      calls = subst (λ X. Calls X v) (sym end) g.calls;
      puts = subst (λ X. AllByRecursion (Puts X) (es ++ fs)) (sym end) (all_both (Puts (after B fs)) es fs
          (all_to (IsPartly k B) (Puts (after B fs)) es (λ e p. puts_later B (after B fs) (later_after B fs) e p.puts) all) g.puts);
      acts = ap (λ (X : Book). X.acts) end ∙ g.acts;
      late = late_behind Q k B es fs all g.late;
    }

-- before them, where they do nothing on the disk
pub goes_before : {Q : Uid → Type 0} (k : ℕ) (B : Book) (es fs : List Effect) (v : Coord) → GoesBy Q k B es v →
    ArePartly k (after B es) fs → AreIdle fs → GoesBy Q k B (es ++ fs) v
goes_before {Q} k B es fs v g all idle =
    let end : after B (es ++ fs) ≡ after B es = after_both B es fs ∙ partly_after k (after B es) fs all in
    record {
      lined = lined_both k B es fs g.lined (partly_lined k (after B es) fs all);
      knows = subst (λ X. Knows X v) (sym end) g.knows;
      calls = subst (λ X. Calls X v) (sym end) g.calls;
      puts = subst (λ X. AllByRecursion (Puts X) (es ++ fs)) (sym end)
          (all_both (Puts (after B es)) es fs g.puts (all_to (IsPartly k (after B es)) (Puts (after B es)) fs (λ e p. p.puts) all));
      acts = ap (λ (X : Book). X.acts) end ∙ g.acts;
      late = late_before Q B es fs g.late (late_partly Q k (after B es) fs all) idle;
    }

-- ---- lines and messages

pub says_partly : (k : ℕ) (B : Book) (u : Uid) (f : Label → Body) (c : Coord) → ((l : Label) → IsPartly k B (Say (f l))) →
    ArePartly k B (says u f c)
says_partly k B u f c each = by (doing_of u c)
  where
    by : (o : Option Doing) → ArePartly k B (say_for f o)
    by None = tt
    by (Some d) = (each d.label, tt)

pub sends_partly : (k : ℕ) (B : Book) (to : ℕ) (m : Message) → Claims B m → IsPartly k B (Send to m)
sends_partly k B to m c = record { lined = c; same = refl; puts = tt }

pub tells_partly : (k : ℕ) (B : Book) (root : Uid) (ack : Bool) (ends : List (Uid × End)) (nodes : List ℕ) → AreSaid B ends →
    ArePartly k B (tell_all root ack ends nodes)
tells_partly k B root ack ends nodes s = all_map (IsPartly k B) (tell root ack ends) nodes
    (λ n i. sends_partly k B n (message.Told (record { root = root; ack = ack; ends = ends })) (tt, s))
