-- What a top has changed, or uses, by some lines it has by more lines.
use Rattle.arj_law_parts.proofs.Words
use Words.{◌≡◌, ◌∙◌, ◌==◌, ◌&&◌, ◌||◌, ◌++◌, ℕ, Bool, true, false, cond, List, [], ◌∷◌, Option, Some, None, refl, sym, ap}
use Words.{⊎_elim}
use Words.{and_parts, cons_option, eqb-true, eq-eqb, filter, filter_map, list_all, list_any, or_cases, writes, Line}
use Rattle.arj_law_disk_view.proofs.Terms.{or_left, or_right}
use Rattle.arj_law_runs.proofs.Terms.{Act, Placed}
use Rattle.arj_model.specs.Actions.{chain_in, committed, committed_of, has_end, top_in}
use Rattle.arj_model.specs.Calls.{Call, Said, made, made_by, made_in, said, said_of, surviving}
use Rattle.arj_model.specs.CausePends.{changes, changes_any, has_some, has_written, uses}
use Rattle.arj_model.specs.CauseSpans.{holds_in}
use Rattle.arj_model.specs.Last.{Inclusion, included, is_among, joins_by, joins_of}
use Rattle.arj_model.specs.Serial.{touches, writes_on}
use Rattle.arj_law_cause.proofs.kinds.Asking.{all_later, among_those, any_later, joins_later}
use Rattle.arj_law_cause.proofs.kinds.Over.{or_later, read_later}
use Rattle.arj_law_cause.proofs.waits.waiting.Lists.{any_in, some_in}

pub any_filtered : {A : Type 0} (f p : A → Bool) (xs : List A) → list_any f (filter p xs) ≡ list_any (λ (x : A). p x && f x) xs
any_filtered f p [] = refl
any_filtered {A} f p (x ∷ xs) = by (p x) (any_filtered f p xs)
  where
    by : (b : Bool) → list_any f (filter p xs) ≡ list_any (λ (y : A). p y && f y) xs →
        list_any f (cond b (x ∷ filter p xs) (filter p xs)) ≡ ((b && f x) || list_any (λ (y : A). p y && f y) xs)
    by true ih = ap (λ b. f x || b) ih
    by false ih = ih

pub any_made : {A B : Type 0} (f : B → Bool) (g : A → Option B) (xs : List A) →
    list_any f (filter_map g xs) ≡ list_any (λ (x : A). holds_in f (g x)) xs
any_made f g [] = refl
any_made {A} {B} f g (x ∷ xs) = by (g x) (any_made f g xs)
  where
    by : (o : Option B) → list_any f (filter_map g xs) ≡ list_any (λ (y : A). holds_in f (g y)) xs →
        list_any f (cons_option o (filter_map g xs)) ≡ (holds_in f o || list_any (λ (y : A). holds_in f (g y)) xs)
    by None ih = ih
    by (Some b) ih = ap (λ c. f b || c) ih

-- by these commits the call is a surviving one of the top that passes the test
abbrev counts_so : List (Placed ℕ) → ℕ → (Call → Bool) → Call → Bool
counts_so ends id test c = (c.top == id) && (list_all (has_end ends) c.chain && test c)

abbrev line_counts : List (Placed ℕ) → ℕ → (Call → Bool) → Placed Said → Bool
line_counts ends id test s = holds_in (counts_so ends id test) (made_in s (top_in s.it.path))

survivor_by : (lines : List Line) (id : ℕ) (test : Call → Bool) →
    list_any test (surviving lines id) ≡ list_any (line_counts (committed lines) id test) (said lines)
survivor_by lines id test =
    any_filtered test (λ (c : Call). list_all (has_end (committed lines)) c.chain) (made_by lines id)
    ∙ any_filtered (λ (c : Call). list_all (has_end (committed lines)) c.chain && test c) (λ (c : Call). c.top == id) (made lines)
    ∙ any_made (counts_so (committed lines) id test) (λ (s : Placed Said). made_in s (top_in s.it.path)) (said lines)

pub survives_later : (ls ms : List Line) (id : ℕ) (test : Call → Bool) → list_any test (surviving ls id) ≡ true →
    list_any test (surviving (ls ++ ms) id) ≡ true
survives_later ls ms id test on = survivor_by (ls ++ ms) id test
    ∙ any_later (line_counts (committed ls) id test) (line_counts (committed (ls ++ ms)) id test)
    (λ s. more (made_in s (top_in s.it.path))) (said (ls ++ ms))
    (read_later said_of (line_counts (committed ls) id test) [] 0 ls ms (sym (survivor_by ls id test) ∙ on))
  where
    ends : (n : ℕ) → has_end (committed ls) n ≡ true → has_end (committed (ls ++ ms)) n ≡ true
    ends n is = read_later committed_of (λ (e : Placed ℕ). e.it == n) [] 0 ls ms is

    kept : (c : Call) → counts_so (committed ls) id test c ≡ true → counts_so (committed (ls ++ ms)) id test c ≡ true
    kept c is =
        let p = and_parts (c.top == id) (list_all (has_end (committed ls)) c.chain && test c) is in
        let q = and_parts (list_all (has_end (committed ls)) c.chain) (test c) p.1 in
        λ i. p.0 i && (all_later (has_end (committed ls)) (has_end (committed (ls ++ ms))) ends c.chain q.0 i && q.1 i)

    more : (o : Option Call) → holds_in (counts_so (committed ls) id test) o ≡ true →
        holds_in (counts_so (committed (ls ++ ms)) id test) o ≡ true
    more None is = absurd (cc is)
    more (Some c) is = kept c is

pub written_later : (ls ms : List Line) (id x : ℕ) → has_written ls id x ≡ true → has_written (ls ++ ms) id x ≡ true
written_later ls ms id x on = survives_later ls ms id (writes_on x) on

pub some_among : (ns : List ℕ) → has_some ns ≡ true → (s : ℕ) × (is_among ns s ≡ true)
some_among [] is = absurd (cc is)
some_among (n ∷ ns) is = (n, or_left (n == n) (is_among ns n) (eq-eqb n n refl))

pub among_some : (ns : List ℕ) (s : ℕ) → is_among ns s ≡ true → has_some ns ≡ true
among_some [] s is = absurd (cc is)
among_some (n ∷ ns) s is = refl

some_later : (ls ms : List Line) (id x : ℕ) → has_some (joins_of ls id x) ≡ true → has_some (joins_of (ls ++ ms) id x) ≡ true
some_later ls ms id x joined = let s = some_among (joins_of ls id x) joined in
    among_some (joins_of (ls ++ ms) id x) s.0 (joins_later ls ms id x s.0 s.1)

pub changes_more : (ls ms : List Line) (id x : ℕ) → changes ls id x ≡ true → changes (ls ++ ms) id x ≡ true
changes_more ls ms id x on = or_later (has_written ls id x) (has_some (joins_of ls id x)) (has_written (ls ++ ms) id x)
    (has_some (joins_of (ls ++ ms) id x)) (written_later ls ms id x) (some_later ls ms id x) on

pub uses_more : (ls ms : List Line) (id x : ℕ) → uses ls id x ≡ true → uses (ls ++ ms) id x ≡ true
uses_more ls ms id x on = or_later (list_any (touches x) (surviving ls id)) (has_some (joins_of ls id x))
    (list_any (touches x) (surviving (ls ++ ms) id)) (has_some (joins_of (ls ++ ms) id x)) (survives_later ls ms id (touches x))
    (some_later ls ms id x) on

-- it has a surviving write, and a surviving include, of any object
abbrev wrote_any : List Line → ℕ → Bool
wrote_any lines id = list_any (λ (c : Call). writes c.op) (surviving lines id)

abbrev joined_any : List Line → ℕ → Bool
joined_any lines id = list_any (λ (i : Placed Inclusion). has_some (joins_of lines id i.it.x)) (included lines)

-- who changes an object changes something
pub changes_some : (lines : List Line) (id x : ℕ) → changes lines id x ≡ true → changes_any lines id ≡ true
changes_some lines id x on = ⊎_elim
    (λ wrote. or_left (wrote_any lines id) (joined_any lines id) (any_later (writes_on x) (λ (c : Call). writes c.op)
    (λ c is. (and_parts (c.x == x) (writes c.op) is).1) (surviving lines id) wrote))
    (λ joined. or_right (wrote_any lines id) (joined_any lines id) (by joined))
    (or_cases (has_written lines id x) (has_some (joins_of lines id x)) on)
  where
    of_object : (i : Placed Inclusion) (s : ℕ) (o : Option Act) → holds_in (λ n. n == s) (joins_by (committed lines) id x i o) ≡ true →
        i.it.x ≡ x
    of_object i s None is = absurd (cc is)
    of_object i s (Some t) is = kept (t.id == id) (i.it.x == x) (list_all (λ (a : Act). has_end (committed lines) a.id)
        (chain_in i.it.path))
        refl is
      where
        kept : (a b c : Bool) → (i.it.x == x) ≡ b → holds_in (λ n. n == s) (cond (a && (b && c)) (Some i.it.node) None) ≡ true → i.it.x ≡ x
        kept true true c same is = eqb-true i.it.x x same
        kept true false c same is = absurd (cc is)
        kept false b c same is = absurd (cc is)

    by : has_some (joins_of lines id x) ≡ true → joined_any lines id ≡ true
    by joined =
        let s = some_among (joins_of lines id x) joined in
        let i = some_in (λ (i : Placed Inclusion). holds_in (λ n. n == s.0) (joins_by (committed lines) id x i (top_in i.it.path)))
        (included lines)
        (sym (among_those (λ (i : Placed Inclusion). joins_by (committed lines) id x i (top_in i.it.path)) (included lines) s.0) ∙ s.1) in
        any_in (λ (i : Placed Inclusion). has_some (joins_of lines id i.it.x)) (included lines) i.0 i.1
        (ap (λ y. has_some (joins_of lines id y)) (of_object i.0 s.0 (top_in i.0.it.path) i.2) ∙ joined)
