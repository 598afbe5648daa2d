-- A run's events by their numbers: which of them are crashes. Of those that are accepted no others are, so a state that may be pending by
-- the first may be so by the others.
use Rattle.arj_law_parts.proofs.Words
use Words.{⊤, ◌≡◌, ◌∙◌, ◌+◌, ◌==◌, ◌&&◌, ◌||◌, ◌≤◌, ◌<◌, not, ℕ, zero, suc, Bool, true, false, cond, List, [], ◌∷◌, map, take, Option}
use Words.{Some, None, refl, sym, ap, subst, ⊎_elim, arith, nat_tests, and_parts, or_left, or_right, AllByRecursion, uid_eq}
use Words.{first_reason, reasons, Body, Event, Header, Line, Move, Uid, World, moved, all_moved, run_event, run_unless}
use Words.body
use Words.role
use Rattle.std.specs.Prelude.{drop}
use Rattle.arj_law_parts.specs.moves.Moments.{History, Moment}
use Rattle.arj_law_parts.specs.moves.With.{past_event, past_moves}
use Rattle.arj_law_runs.proofs.follow.Along.{Ended, Outcome, Went, event_of}
use Rattle.arj_law_runs.proofs.follow.Frames as frames
use Rattle.arj_law_runs.proofs.Terms.{Act, Placed}
use Rattle.arj_law_runs.specs.follow.Frames.{FramesStep}
use Rattle.arj_model.specs.CausePends.{called_at, frame_is, halts_preparing, is_crash, is_crash_at, is_prepare, last_got, pends, pends_from}
use Rattle.arj_model.specs.CausePends.{pends_step}
use Rattle.arj_model.specs.CauseSpans.{holds_in}
use Rattle.arj_model.specs.Past.{Asked as AskedOf, Past, next}
use Rattle.arj_promise.specs.Runs.{HeaderFits, IsStoppedInForm}
use Rattle.arj_law_cause.proofs.rows.{Running.Beside, Running.StandsSo, Running.move_so, Whole.next_crash}

-- ---- events by number

-- these events, from a number on
abbrev pub asked_from : ℕ → List Event → List AskedOf
asked_from c [] = []
asked_from c (e ∷ es) = record { path = []; event = e; number = c + 1; at = 0 } ∷ asked_from (c + 1) es

-- from this number on these are the events of which the list counts crashes
abbrev pub Agrees : List AskedOf → ℕ → List Event → Type 0
Agrees A c es = (n k : ℕ) → c < k → is_crash_at A n k ≡ is_crash_at (asked_from c es) n k

-- it counts all their crashes
abbrev pub Covers : List AskedOf → ℕ → List Event → Type 0
Covers A c [] = ⊤
Covers A c (e ∷ es) = ((n : ℕ) → is_crash n e ≡ true → is_crash_at A n (c + 1) ≡ true) × Covers A (c + 1) es

-- and those of all that was accepted
abbrev pub Accepts : List AskedOf → Past → Type 0
Accepts A p = (n k : ℕ) → is_crash_at p.accepted n k ≡ true → is_crash_at A n k ≡ true

itself : (n : ℕ) → (n == n) ≡ true
itself n = grind (arith, nat_tests)

or_none : (b : Bool) → (b || false) ≡ b
or_none true = refl
or_none false = refl

-- events behind have larger numbers
none_before : (n k c : ℕ) (es : List Event) → k ≤ c → is_crash_at (asked_from c es) n k ≡ false
none_before n k c [] low = refl
none_before n k c (e ∷ es) low = λ i. (apart low i && is_crash n e) || none_before n k (c + 1) es (more low) i
  where
    apart : k ≤ c → (c + 1 == k) ≡ false
    apart low = grind (arith, nat_tests, low)

    more : k ≤ c → k ≤ c + 1
    more low = omega (arith, low)

crash_is : (A : List AskedOf) (c : ℕ) (e : Event) (es : List Event) → Agrees A c (e ∷ es) → (n : ℕ) →
    is_crash_at A n (c + 1) ≡ is_crash n e
crash_is A c e es agrees n = agrees n (c + 1) (behind c)
    ∙ (λ i. (itself (c + 1) i && is_crash n e) || none_before n (c + 1) (c + 1) es (low (c + 1)) i) ∙ or_none (is_crash n e)
  where
    behind : (m : ℕ) → m < m + 1
    behind m = omega arith

    low : (m : ℕ) → m ≤ m
    low m = omega arith

agrees_next : (A : List AskedOf) (c : ℕ) (e : Event) (es : List Event) → Agrees A c (e ∷ es) → Agrees A (c + 1) es
agrees_next A c e es agrees n k less = agrees n k (before less)
    ∙ (λ i. (apart less i && is_crash n e) || is_crash_at (asked_from (c + 1) es) n k)
  where
    before : c + 1 < k → c < k
    before less = omega (arith, less)

    apart : c + 1 < k → (c + 1 == k) ≡ false
    apart less = grind (arith, nat_tests, less)

pub covers_first : (A : List AskedOf) (c m : ℕ) (es : List Event) → Agrees A c es → Covers A c (take m es)
covers_first A c zero es agrees = tt
covers_first A c (suc m) [] agrees = tt
covers_first A c (suc m) (e ∷ es) agrees =
    ((λ n is. crash_is A c e es agrees n ∙ is), covers_first A (c + 1) m es (agrees_next A c e es agrees))

pub accepts_next : (A : List AskedOf) (p : Past) (e : Event) (bodies : List Body) → Accepts A p →
    ((n : ℕ) → is_crash n e ≡ true → is_crash_at A n (p.count + 1) ≡ true) → Accepts A (next p e bodies)
accepts_next A p e bodies old new n k is = ⊎_elim (λ was. old n k was)
    (λ now. subst (λ j. is_crash_at A n j ≡ true) now.0 (new n now.1)) (next_crash n k p e bodies is)

-- ---- fewer crashes

or_more : (a b c d : Bool) → (a ≡ true → b ≡ true) → (c ≡ true → d ≡ true) → (a || c) ≡ true → (b || d) ≡ true
or_more true b c d f g is = or_left b d (f refl)
or_more false b c d f g is = or_right b d (g is)

and_more : (a b c d : Bool) → (a ≡ true → b ≡ true) → (c ≡ true → d ≡ true) → (a && c) ≡ true → (b && d) ≡ true
and_more a b c d f g is = let q = and_parts a c is in λ i. f q.0 i && g q.1 i

-- of a stop that counts in more
module _ (p q : Bool) (takes : p ≡ true → q ≡ true) where
  step_more : (n : ℕ) (u : Uid) (b : Body) (on off : Bool) → (on ≡ true → off ≡ true) → pends_step p n u b on ≡ true →
      pends_step q n u b off ≡ true
  step_more n u (body.Prepared m v role.Store) on off more is =
      or_more on off ((m == n) && uid_eq v u) ((m == n) && uid_eq v u) more (λ z. z) is
  step_more n u (body.Halted m) on off more is =
      or_more on off ((m == n) && p) ((m == n) && q) more (λ z. and_more (m == n) (m == n) p q (λ y. y) takes z) is
  step_more n u (body.Done m v role.Store e) on off more is =
      and_more on off (not ((m == n) && uid_eq v u)) (not ((m == n) && uid_eq v u)) more (λ z. z) is
  step_more n u (body.Prepared m v role.Names) on off more is = more is
  step_more n u (body.Done m v role.Names e) on off more is = more is
  step_more n u (body.Began x y z w) on off more is = more is
  step_more n u (body.Ok x y z w) on off more is = more is
  step_more n u (body.Includes x y z) on off more is = more is
  step_more n u (body.Conflict x y z w) on off more is = more is
  step_more n u (body.Lost x y) on off more is = more is
  step_more n u (body.Changed x y z) on off more is = more is
  step_more n u (body.Committing x) on off more is = more is
  step_more n u (body.Committed x) on off more is = more is
  step_more n u (body.Aborted x y) on off more is = more is
  step_more n u (body.Ended x) on off more is = more is
  step_more n u (body.GaveUp x y) on off more is = more is
  step_more n u (body.Excluded x y z) on off more is = more is
  step_more n u (body.Granted x y z w) on off more is = more is
  step_more n u (body.Lowered x y z) on off more is = more is
  step_more n u (body.Bound x y z) on off more is = more is
  step_more n u (body.Active x y z) on off more is = more is
  step_more n u (body.Told x y z w) on off more is = more is
  step_more n u (body.Sent x y z w) on off more is = more is
  step_more n u (body.Got x) on off more is = more is
  step_more n u (body.Void x) on off more is = more is
  step_more n u (body.Dropped x) on off more is = more is
  step_more n u (body.Up x y) on off more is = more is
  step_more n u (body.Armed x) on off more is = more is
  step_more n u (body.Recovered x y) on off more is = more is
  step_more n u (body.Refused x) on off more is = more is
  step_more n u (body.Entry x y z w) on off more is = more is
  step_more n u (body.Copy x y z w v) on off more is = more is
  step_more n u (body.Quiet x) on off more is = more is
  step_more n u (body.Bad x) on off more is = more is
  step_more n u (body.Limit x) on off more is = more is

module _ (A B : List AskedOf) (fewer : (n k : ℕ) → is_crash_at B n k ≡ true → is_crash_at A n k ≡ true) where
  -- the node takes a Prepare from home
  abbrev taking : ℕ → ℕ → List Line → ℕ → Bool
  taking home n ls k = (n == home) || holds_in (frame_is (is_prepare home n) ls) (last_got k None ls)

  pub halts_more : (home n : ℕ) (ls : List Line) (k : ℕ) → halts_preparing A home n ls k ≡ true → halts_preparing B home n ls k ≡ true
  halts_more home n ls k is = by (is_crash_at B n k) refl
    where
      both : (not (is_crash_at A n k) ≡ true) × (taking home n ls k ≡ true)
      both = and_parts (not (is_crash_at A n k)) (taking home n ls k) is

      by : (b : Bool) → is_crash_at B n k ≡ b → halts_preparing B home n ls k ≡ true
      by true on = let no_way : false ≡ true = ap not (sym (fewer n k on)) ∙ both.0 in absurd (cc no_way)
      by false off = (λ i. not (off i) && taking home n ls k) ∙ both.1

  from_more : (n : ℕ) (u : Uid) (lines : List Line) (p : ℕ) (on off : Bool) (rest : List Line) → (on ≡ true → off ≡ true) →
      pends_from A n u lines p on rest ≡ true → pends_from B n u lines p off rest ≡ true
  from_more n u lines p on off [] more is = more is
  from_more n u lines p on off (line ∷ rest) more is = from_more n u lines (p + 1)
      (pends_step (halts_preparing A u.node n (take p lines) line.event) n u line.body on)
      (pends_step (halts_preparing B u.node n (take p lines) line.event) n u line.body off) rest
      (step_more (halts_preparing A u.node n (take p lines) line.event) (halts_preparing B u.node n (take p lines) line.event)
      (halts_more u.node n (take p lines) line.event) n u line.body on off more) is

  pub pends_fewer : (n : ℕ) (u : Uid) (lines : List Line) → pends A n u lines ≡ true → pends B n u lines ≡ true
  pends_fewer n u lines is = by (called_at lines u) is
    where
      by : (o : Option (Placed (List Act))) → holds_in (λ (m : Placed (List Act)). pends_from A n u lines m.at false (drop m.at lines)) o
          ≡ true → holds_in (λ (m : Placed (List Act)). pends_from B n u lines m.at false (drop m.at lines)) o ≡ true
      by None none = none
      by (Some m) so = from_more n u lines m.at false false (drop m.at lines) (λ z. z) so

-- ---- runs

-- a run that is over stays so
over_moved : (m : Move) (w : World) → w.over ≡ true → (moved m w).over ≡ true
over_moved m w is =
    let v = record w { arms = m.falls } in
    let same : run_event m.asked v ≡ v = λ i. cond (is i) v (run_unless (event_of m) (let e = m.asked in e.arm) v
    (first_reason (reasons (event_of m) v))) in
    ap (λ (x : World). x.over) same ∙ is

module _ (A : List AskedOf) (hd : Header) (form : HeaderFits hd) (P : Moment → Type 0) (I : List Line → ℕ → Moment → Type 0)
    (beside : Beside A hd P I) where
  -- behind a move and more of them
  abbrev Ahead : List Move → Move → History → World → Type 0
  Ahead ms m g w = StandsSo A hd P I beside (past_moves ms (moved m w) (past_event m.asked (record w { arms = m.falls }) g))
      (all_moved ms (moved m w))

  over_so : (ms : List Move) (g : History) (w : World) → w.over ≡ true → StandsSo A hd P I beside g w →
      StandsSo A hd P I beside (past_moves ms w g) (all_moved ms w)
  over_so [] g w over h = h
  over_so (m ∷ ms) g w over h = over_so ms (past_event m.asked (record w { arms = m.falls }) g) (moved m w) (over_moved m w over)
      (move_so A hd P I beside m g w (λ on. let no_way : true ≡ false = sym over ∙ on in absurd (cc no_way)) h)

  -- where these are all the events that are still to be run
  pub runs_so : (ms : List Move) → AllByRecursion IsStoppedInForm ms → (p : Past) (g : History) (w : World) → frames.Stands hd form p w →
      Agrees A w.event (map event_of ms) → StandsSo A hd P I beside g w → StandsSo A hd P I beside (past_moves ms w g) (all_moved ms w)
  runs_so [] stops p g w s agrees h = h
  runs_so (m ∷ ms) stops p g w s agrees h = by w.over refl (λ q t left. runs_so ms stops.1 q
      (past_event m.asked (record w { arms = m.falls }) g) (moved m w) t left
      (move_so A hd P I beside m g w (λ on n is. sym (crash_is A w.event (event_of m) (map event_of ms) agrees n) ∙ is) h))
    where
      moves : StandsSo A hd P I beside (past_event m.asked (record w { arms = m.falls }) g) (moved m w)
      moves = move_so A hd P I beside m g w (λ on n is. sym (crash_is A w.event (event_of m) (map event_of ms) agrees n) ∙ is) h

      went : ((q : Past) → frames.Stands hd form q (moved m w) → Agrees A (moved m w).event (map event_of ms) →
          Ahead ms m g w) →
          Outcome (FramesStep hd) (frames.Stands hd form) m p w →
          Ahead ms m g w
      went rest (Ended over event lines) = over_so ms (past_event m.asked (record w { arms = m.falls }) g) (moved m w) over moves
      went rest (Went bodies step after) = rest (next p (event_of m) bodies) after (subst (λ c. Agrees A c (map event_of ms))
          (sym (sym after.count ∙ ap (λ n. n + 1) s.count)) (agrees_next A w.event (event_of m) (map event_of ms) agrees))

      by : (b : Bool) → w.over ≡ b → ((q : Past) → frames.Stands hd form q (moved m w) → Agrees A (moved m w).event (map event_of ms) →
          Ahead ms m g w) →
          Ahead ms m g w
      by true over rest = over_so ms (past_event m.asked (record w { arms = m.falls }) g) (moved m w) (over_moved m w over) moves
      by false on rest = went rest (frames.goes hd form m p w stops.0 s on)
