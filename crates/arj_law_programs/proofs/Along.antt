-- What each event of a run wrote, as the events of a trace have it.
use Rattle.std.proofs.Common.{◌≡◌, ◌∙◌, ◌<◌, ◌⊎◌, inl, inr, ℕ, ◌+◌, List, [], ◌∷◌, ◌++◌, length, map, refl, ap, sym, subst, arith, true}
use Rattle.std.proofs.Common.{false}
use Rattle.std.proofs.Common.{Bool, cond, ◌==◌, append-nil, eq-eqb, eqb-true, true≢false, ◌&&◌}
use Rattle.std.specs.Prelude.{⊤, filter}
use Rattle.std.specs.List.{AllByRecursion, flat_map}
use Rattle.std.proofs.lemmas.List.{append_assoc, length-map, map-append}
use Rattle.std.proofs.lemmas.List.Elements.{filter-append}
use Rattle.arj_journal.specs.declared.body.Body.{Body}
use Rattle.arj_journal.specs.declared.body.Line.{Line}
use Rattle.arj_journal.specs.declared.event.Event.{Event}
use Rattle.arj_journal.specs.declared.event.Event.TheVariants as event
use Rattle.arj_model.specs.Follows.{AreEnding, Runs, is_ending}
use Rattle.arj_model.specs.Past.{Along, Past, at_start, block, next}
use Rattle.arj_progrun.specs.Schedule.{Given}
use Rattle.arj_progrun.specs.Stepped.{AreNumbered, are_of}
use Rattle.arj_start.specs.Start.{fresh}
use Rattle.arj_law_programs.proofs.Acts.{all_append, all_map}
use Rattle.arj_law_programs.proofs.Keeping.{other_number}
use Rattle.arj_law_programs.proofs.Fits.{bodies_of}

-- ---- lists

cancel : {A : Type 0} (xs ys zs : List A) → xs ++ ys ≡ xs ++ zs → ys ≡ zs
cancel [] ys zs e = e
cancel (x ∷ xs) ys zs e = cancel xs ys zs (let t : xs ++ ys ≡ xs ++ zs = cc in t)

filter_all : {A : Type 0} (f : A → Bool) (xs : List A) → AllByRecursion (λ x. f x ≡ true) xs → filter f xs ≡ xs
filter_all f [] all = refl
filter_all f (x ∷ xs) all = (λ i. cond (all.0 i) (x ∷ filter f xs) (filter f xs)) ∙ ap (λ ys. x ∷ ys) (filter_all f xs all.1)

filter_none : {A : Type 0} (f : A → Bool) (xs : List A) → AllByRecursion (λ x. f x ≡ false) xs → filter f xs ≡ []
filter_none f [] all = refl
filter_none f (x ∷ xs) all = (λ i. cond (all.0 i) (x ∷ filter f xs) (filter f xs)) ∙ filter_none f xs all.1

and_parts : (a b : Bool) → (a && b) ≡ true → (a ≡ true) × (b ≡ true)
and_parts true b e = (refl, e)
and_parts false b e = absurd (true≢false (sym e))

-- ---- numbers of lines

-- the line is of this event
abbrev is_of : ℕ → Line → Bool
is_of n l = l.event == n

all_of : (n : ℕ) (ls : List Line) → are_of n ls ≡ true → AllByRecursion (λ (l : Line). is_of n l ≡ true) ls
all_of n [] e = tt
all_of n (l ∷ ls) e = let p = and_parts (l.event == n) (are_of n ls) e in (p.0, all_of n ls p.1)

-- lines of an event are a block
pub block_of : (n : ℕ) (ls : List Line) → are_of n ls ≡ true → ls ≡ block n (bodies_of ls)
block_of n [] e = refl
block_of n (l ∷ ls) e =
    let p = and_parts (l.event == n) (are_of n ls) e in
    λ i. record { event = eqb-true l.event n p.0 i; body = l.body } ∷ block_of n ls p.1 i

pub bodies_block : (n : ℕ) (bs : List Body) → bodies_of (block n bs) ≡ bs
bodies_block n [] = refl
bodies_block n (b ∷ bs) = ap (λ xs. b ∷ xs) (bodies_block n bs)

-- none of these is of the event
abbrev NoneOf : ℕ → List Line → Type 0
NoneOf n ls = AllByRecursion (λ (l : Line). is_of n l ≡ false) ls

abbrev AreBehind : ℕ → List Line → Type 0
AreBehind n ls = AllByRecursion (λ (l : Line). n < l.event) ls

none_of : (n : ℕ) (ls : List Line) → AreBehind n ls → NoneOf n ls
none_of n ls all =
    all_map (λ (l : Line). n < l.event) (λ l. is_of n l ≡ false) (λ l low. other_number l.event n (λ e. omega (arith, low, e))) ls all

block_behind : (n m : ℕ) (bs : List Body) → n < m → AreBehind n (block m bs)
block_behind n m [] low = tt
block_behind n m (b ∷ bs) low = (low, block_behind n m bs low)

block_all : (n : ℕ) (bs : List Body) → AllByRecursion (λ (l : Line). is_of n l ≡ true) (block n bs)
block_all n [] = tt
block_all n (b ∷ bs) = (eq-eqb n n refl, block_all n bs)

of_behind : (n m : ℕ) (ls : List Line) → n < m → are_of m ls ≡ true → AreBehind n ls
of_behind n m ls low e =
    all_map (λ (l : Line). is_of m l ≡ true) (λ l. n < l.event)
    (λ l is. let at : l.event ≡ m = eqb-true l.event m is in omega (arith, low, at)) ls (all_of m ls e)

-- the lines of a trace
abbrev pub lines_of : List Given → List Line
lines_of gs = flat_map (λ (g : Given). g.lines) gs

trace_behind : (n m : ℕ) (gs : List Given) → n < m → AreNumbered m gs → AreBehind n (lines_of gs)
trace_behind n m [] low all = tt
trace_behind n m (g ∷ gs) low all =
    all_append (λ (l : Line). n < l.event) g.lines (lines_of gs) (of_behind n m g.lines low all.0)
    (trace_behind n (m + 1) gs (omega (arith, low)) all.1)

-- what a run writes from here on
along_lines : (P : Past → Event → List Body → Type 0) (past : Past) (es : List Event) (end : Past) → Along P past es end →
    (more : List Line) × (end.lines ≡ past.lines ++ more) × AreBehind past.count more
along_lines P past [] end is = ([], ap (λ (p : Past). p.lines) (sym is) ∙ sym (append-nil past.lines), tt)
along_lines P past (e ∷ es) end (bodies, step, rest) =
    let r = along_lines P (next past e bodies) es end rest in (
      block (past.count + 1) bodies ++ r.0,
      r.1 ∙ append_assoc past.lines (block (past.count + 1) bodies) r.0,
      all_append (λ (l : Line). past.count < l.event) (block (past.count + 1) bodies) r.0
          (block_behind past.count (past.count + 1) bodies (omega arith))
          (all_map (λ (l : Line). past.count + 1 < l.event) (λ l. past.count < l.event) (λ l low. omega (arith, low)) r.0 r.2),
    )

ending_behind : (n m : ℕ) (ls : List Line) → n < m → AreEnding m ls → AreBehind n ls
ending_behind n m [] low e = tt
ending_behind n m (l ∷ []) low e = let at = e.0 in (omega (arith, low, at), tt)
ending_behind n m (l ∷ k ∷ ls) low e = absurd e

-- ---- events of a trace

-- What holds of an event; of the last one, a quiesce, perhaps but for a line outside of events that stands behind.
abbrev pub Tolerant : (Past → Event → List Body → Type 0) → Past → Event → List Body → Type 0
Tolerant P past e bs =
    P past e bs ⊎ ((e ≡ event.Quiesce) × ((front : List Body) × (x : Body) × (bs ≡ front ++ x ∷ []) × (is_ending x ≡ true)
    × P past e front))

abbrev pub TraceHas : (Past → Event → List Body → Type 0) → Past → List Given → Type 0
TraceHas P past [] = ⊤
TraceHas P past (g ∷ gs) = Tolerant P past g.event (bodies_of g.lines) × TraceHas P (next past g.event (bodies_of g.lines)) gs

-- the last event of a trace is a quiesce
abbrev pub EndsQuiet : List Given → Type 0
EndsQuiet [] = ⊤
EndsQuiet (g ∷ []) = g.event ≡ event.Quiesce
EndsQuiet (g ∷ h ∷ gs) = EndsQuiet (h ∷ gs)

pub ends_quiet : (front : List Given) (lines : List Line) → EndsQuiet (front ++ record { event = event.Quiesce; lines = lines } ∷ [])
ends_quiet [] lines = refl
ends_quiet (g ∷ []) lines = refl
ends_quiet (g ∷ h ∷ front) lines = ends_quiet (h ∷ front) lines

module _ (P : Past → Event → List Body → Type 0) where
  -- the last event
  last_has : (past : Past) (g : Given) (end : Past) (ending : List Line) → g.event ≡ event.Quiesce →
      ((bodies : List Body) × P past g.event bodies × (next past g.event bodies ≡ end)) →
      past.lines ++ (g.lines ++ []) ≡ end.lines ++ ending → AreEnding (past.count + 1) ending →
      Tolerant P past g.event (bodies_of g.lines)
  last_has past g end ending quiet (bodies, step, is) same last =
      by ending last (ap bodies_of (sym (append-nil g.lines) ∙ cancel past.lines (g.lines ++ []) (block (past.count + 1) bodies ++ ending)
      (same ∙ (λ i. (let e = sym is i in e.lines) ++ ending) ∙ append_assoc past.lines (block (past.count + 1) bodies) ending))
      ∙ map-append (λ (l : Line). l.body) (block (past.count + 1) bodies) ending
      ∙ ap (λ bs. bs ++ bodies_of ending) (bodies_block (past.count + 1) bodies))
    where
      by : (ls : List Line) → AreEnding (past.count + 1) ls → bodies_of g.lines ≡ bodies ++ bodies_of ls →
          Tolerant P past g.event (bodies_of g.lines)
      by [] e are = inl (subst (P past g.event) (sym (are ∙ append-nil bodies)) step)
      by (l ∷ []) e are = inr (quiet, (bodies, l.body, are, e.1, step))
      by (l ∷ k ∷ ls) e are = absurd e

  pub trace_has : (past : Past) (gs : List Given) (end : Past) (ending : List Line) →
      Along P past (map (λ (g : Given). g.event) gs) end → past.lines ++ lines_of gs ≡ end.lines ++ ending →
      AreEnding (past.count + length gs) ending → AreNumbered (past.count + 1) gs → EndsQuiet gs → TraceHas P past gs
  trace_has past [] end ending along same last numbers quiet = tt
  trace_has past (g ∷ []) end ending along same last numbers quiet =
      (last_has past g end ending quiet along same last, tt)
  trace_has past (g ∷ h ∷ gs) end ending (bodies, step, rest) same last numbers quiet =
      let n : ℕ = past.count + 1 in
      let more = along_lines P (next past g.event bodies) (map (λ (x : Given). x.event) (h ∷ gs)) end rest in
      let cut : g.lines ++ lines_of (h ∷ gs) ≡ block (past.count + 1) bodies ++ (more.0 ++ ending) =
      cancel past.lines (g.lines ++ lines_of (h ∷ gs)) (block (past.count + 1) bodies ++ (more.0 ++ ending))
      (same ∙ ap (λ ls. ls ++ ending) more.1 ∙ append_assoc (past.lines ++ block (past.count + 1) bodies) more.0 ending
      ∙ append_assoc past.lines (block (past.count + 1) bodies) (more.0 ++ ending)) in
      let is : g.lines ≡ block (past.count + 1) bodies =
      sym (front g.lines (lines_of (h ∷ gs)) (all_of (past.count + 1) g.lines numbers.0)
      (none_of (past.count + 1) (lines_of (h ∷ gs)) (trace_behind (past.count + 1) (past.count + 1 + 1) (h ∷ gs) (omega arith) numbers.1)))
      ∙ ap (filter (is_of (past.count + 1))) cut
      ∙ front (block (past.count + 1) bodies) (more.0 ++ ending) (block_all (past.count + 1) bodies)
      (none_of (past.count + 1) (more.0 ++ ending) (all_append (λ (l : Line). past.count + 1 < l.event) more.0 ending more.2
      (ending_behind (past.count + 1) (past.count + length (g ∷ h ∷ gs)) ending (omega arith) last))) in
      let one : bodies ≡ bodies_of g.lines = sym (ap bodies_of is ∙ bodies_block (past.count + 1) bodies) in (
        inl (subst (P past g.event) one step),
        trace_has (next past g.event (bodies_of g.lines)) (h ∷ gs) end ending
            (subst (λ bs. Along P (next past g.event bs) (map (λ (x : Given). x.event) (h ∷ gs)) end) one rest)
            (append_assoc past.lines (block (past.count + 1) (bodies_of g.lines)) (lines_of (h ∷ gs))
            ∙ ap (λ ls. past.lines ++ (ls ++ lines_of (h ∷ gs))) (sym (block_of (past.count + 1) g.lines numbers.0)) ∙ same)
            (subst (λ k. AreEnding k ending) (let e : past.count + length (g ∷ h ∷ gs) ≡ past.count + 1 + length
            (h ∷ gs) = omega arith in e) last)
            numbers.1 quiet,
      )
    where
      front : (xs ys : List Line) → AllByRecursion (λ (l : Line). is_of (past.count + 1) l ≡ true) xs → NoneOf (past.count + 1) ys →
          filter (is_of (past.count + 1)) (xs ++ ys) ≡ xs
      front xs ys all none =
          filter-append (is_of (past.count + 1)) xs ys
          ∙ (λ i. filter_all (is_of (past.count + 1)) xs all i ++ filter_none (is_of (past.count + 1)) ys none i) ∙ append-nil xs

  -- of a whole run
  pub run_has : (gs : List Given) (lines : List Line) → Runs P fresh (map (λ (g : Given). g.event) gs) lines → lines_of gs ≡ lines →
      AreNumbered 1 gs → EndsQuiet gs → TraceHas P (at_start fresh) gs
  run_has gs lines (end, ending, along, is, last) same numbers quiet =
      trace_has (at_start fresh) gs end ending along (same ∙ is)
      (subst (λ n. AreEnding n ending) (length-map gs (λ (g : Given). g.event)
      ∙ (let e : length gs ≡ 0 + length gs = omega arith in e)) last) numbers quiet
