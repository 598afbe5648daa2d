-- In a run's journal each lock on an entry was granted to an action that began before, and each restart gives a greater incarnation.
use Rattle.arj_law_parts.proofs.Words
use Words.{◌≡◌, ◌⊎◌, ◌≤◌, ◌<◌, ◌∙◌, ◌+◌, ◌++◌, ◌&&◌, ◌||◌, not, ℕ, suc, Bool, true, false, if◌then◌else◌, List, [], ◌∷◌, length, Option, Some, None, refl, sym}
use Words.{ap, subst, inl, inr, arith, ◌==◌, eqb-true, nat_tests, append-nil, append_assoc, and_parts, in_find, length-append, Body, Event, Header, Line, Mode, Start, Uid, nat_lt, numbered, uid_eq}
use Words.body
use Rattle.arj_law_runs.specs.follow.Frames.{are_so, run_events}
use Rattle.arj_law_runs.specs.journal.Right.{has_act}
use Rattle.arj_law_serial.proofs.Terms.{Act, acts, any_in}
use Rattle.arj_model.specs.CauseLocks.{granted_caused, is_restart}
use Rattle.arj_model.specs.CauseNodes.{restarts}
use Rattle.arj_model.specs.CauseSpans.{Here, act_by, behind, here_at, holds_in}
use Rattle.arj_model.specs.Caused.{has_cause}
use Rattle.arj_model.specs.Follows.{AreEnding, Runs, is_ending}
use Rattle.arj_model.specs.Refusals.{incarnation}
use Rattle.arj_model.specs.Past.{Along, Past, at_start, block, next}
use Rattle.arj_promise.specs.Runs.{IsInForm, Run, journal_by}
use Rattle.arj_law_cause.proofs.confirm.{Ups.UpsRise, Runs.runs_early}
use Rattle.arj_law_cause.proofs.kinds.{Back.is_for, Back.is_given_back, Back.is_granted_by, Entries.granted_entry_row}
use Rattle.arj_law_cause.proofs.kinds.{Lines.more_lines, Up.up_row}
use Rattle.arj_law_cause.proofs.rows.Differences.{behind as stands_behind}
use Rattle.arj_law_cause.proofs.rows.Entered.{GrantsBegan, IsSettled}
use Rattle.arj_law_cause.specs.kinds.Kinds.{is_granted_entry, is_up}
use Rattle.arj_law_cause.specs.kinds.Rows.{TestedStep, tested}

-- ---- places of lines

abbrev rest_of : List Line → List Line
rest_of [] = []
rest_of (l ∷ ls) = ls

abbrev first_or : Line → List Line → Line
first_or l [] = l
first_or l (m ∷ ls) = m

-- lists that are one after as many
split : (xs ys pre : List Line) (l : Line) (post : List Line) → xs ++ ys ≡ pre ++ l ∷ post → length xs ≡ length pre →
    (xs ≡ pre) × (ys ≡ l ∷ post)
split [] ys [] l post are same = (refl, are)
split [] ys (p ∷ pre) l post are same = absurd (omega (arith, same))
split (x ∷ xs) ys [] l post are same = absurd (omega (arith, same))
split (x ∷ xs) ys (p ∷ pre) l post are same =
    let z = split xs ys pre l post (ap rest_of are) (omega (arith, same)) in ((λ i. ap (first_or x) are i ∷ z.0 i), z.1)

module _ (test : Here → Body → Bool) (of : Body → Bool) (hd : Header) (st : Start) where
  abbrev Passes : List Line → Line → Type 0
  Passes pre line = (g : Here) × (g.lines ≡ pre) × (tested test (λ h. of) g line.body ≡ true) × (g.start ≡ st)

  up_to : (m n : ℕ) → m ≤ n → (m ≡ n) ⊎ (m + 1 ≤ n)
  up_to m n le = by (m == n) refl
    where
      by : (b : Bool) → (m == n) ≡ b → (m ≡ n) ⊎ (m + 1 ≤ n)
      by true e = inl (eqb-true m n e)
      by false e = inr (grind (arith, nat_tests, le, e))

  -- a line among these passes, or stands behind them
  so_each : (h : Here) (bs : List Body) (more : List Line) → are_so (tested test (λ h. of)) h bs ≡ true → (pre : List Line) (line : Line)
      (post : List Line) → h.lines ++ (numbered h.number bs ++ more) ≡ pre ++ line ∷ post → length h.lines ≤ length pre → h.start ≡ st →
      Passes pre line ⊎ (length (h.lines ++ numbered h.number bs) ≤ length pre)
  so_each h [] more passes pre line post are late starts = inr (subst (λ ls. length ls ≤ length pre) (sym (append-nil h.lines)) late)
  so_each h (b ∷ bs) more passes pre line post are late starts = by (up_to (length h.lines) (length pre) late)
      (λ le. so_each (behind h b) bs more (and_parts (tested test (λ h. of) h b) (are_so (tested test (λ h. of)) (behind h b) bs) passes).1 pre line post
      (append_assoc h.lines (record { event = h.number; body = b } ∷ []) (numbered h.number bs ++ more) ∙ are) le starts)
    where
      p : (tested test (λ h. of) h b ≡ true) × (are_so (tested test (λ h. of)) (behind h b) bs ≡ true)
      p = and_parts (tested test (λ h. of) h b) (are_so (tested test (λ h. of)) (behind h b) bs) passes

      by : (length h.lines ≡ length pre) ⊎ (length h.lines + 1 ≤ length pre) → ((let g = behind h b in length g.lines ≤ length pre) →
          Passes pre line ⊎ (let g = behind h b in length (g.lines ++ numbered g.number bs) ≤ length pre)) →
          Passes pre line ⊎ (length (h.lines ++ numbered h.number (b ∷ bs)) ≤ length pre)
      by (inl same) ih =
          let z = split h.lines (numbered h.number (b ∷ bs) ++ more) pre line post are same in
          inl (h, z.0, ap (λ (l : Line). tested test (λ g. of) h l.body) (sym (ap (first_or line) z.1)) ∙ p.0, starts)
      by (inr after) ih = subst (λ ls. Passes pre line ⊎ (length ls ≤ length pre))
          (append_assoc h.lines (record { event = h.number; body = b } ∷ []) (numbered h.number bs))
          (ih (subst (λ n. n ≤ length pre) (sym (length-append h.lines (record { event = h.number; body = b } ∷ []))) after))

  along_each : (es : List Event) (p end : Past) → Along (TestedStep test (λ h. of) hd) p es end → (pre : List Line) (line : Line)
      (post : List Line) → end.lines ≡ pre ++ line ∷ post → length p.lines ≤ length pre → p.start ≡ st → Passes pre line
  along_each [] p end a pre line post are late starts = absurd (never (length p.lines) (length pre) (length post)
      (ap (λ (q : Past). length q.lines) a ∙ ap length are ∙ length-append pre (line ∷ post)) late)
    where
      never : (m n k : ℕ) → m ≡ n + suc k → m ≤ n → ⊥
      never m n k is le = omega (arith, is, le)
  along_each (e ∷ es) p end a pre line post are late starts =
      by (λ after. along_each es (next p e a.0) end a.2 pre line post are after starts)
      (so_each (here_at hd p e a.0) a.0 r.0 a.1 pre line post (sym (r.1 ∙ append_assoc p.lines (block (p.count + 1) a.0) r.0) ∙ are) late starts)
    where
      r : (more : List Line) × (end.lines ≡ (let n = next p e a.0 in n.lines) ++ more)
      r = more_lines (TestedStep test (λ h. of) hd) es (next p e a.0) end a.2

      by : ((let n = next p e a.0 in length n.lines ≤ length pre) → Passes pre line) →
          Passes pre line ⊎ (length (p.lines ++ numbered (p.count + 1) a.0) ≤ length pre) → Passes pre line
      by ih (inl it) = it
      by ih (inr after) = ih after

-- ---- locks on entries

-- whoever is granted one began
began_of : (g : Here) (u o : Uid) (how : Mode) → is_granted_by g (body.Granted 1 u o how) ≡ true → has_act (acts g.lines) u ≡ true
began_of g u o how is = by (is_restart g.event) is
  where
    there : (f : Option Act) → act_by g.lines u ≡ f → (test : Act → Bool) → holds_in test f ≡ true → has_act (acts g.lines) u ≡ true
    there None found test holds = absurd (cc holds)
    there (Some a) found test holds =
        let i = in_find (λ (z : Act). uid_eq z.uid u) a (acts g.lines) found in
        any_in (λ (z : Act). uid_eq z.uid u) a (acts g.lines) i.0 i.1

    by : (b : Bool) → (if b then is_given_back g 1 u o how && holds_in (λ a. is_for g.lines a o.num) (act_by g.lines u)
        else granted_caused g 1 u o how) ≡ true → has_act (acts g.lines) u ≡ true
    by true is = there (act_by g.lines u) refl (λ a. is_for g.lines a o.num)
        (and_parts (is_given_back g 1 u o how) (holds_in (λ a. is_for g.lines a o.num) (act_by g.lines u)) is).1
    by false is = there (act_by g.lines u) refl _ is

-- each line of a run's journal that is said inside of events passes
module _ (test : Here → Body → Bool) (of : Body → Bool) (hd : Header) (r : Run hd)
    (runs : Runs (TestedStep test (λ h. of) hd) r.start (run_events hd r) (journal_by hd r)) (pre : List Line) (line : Line)
    (post : List Line) (are : journal_by hd r ≡ pre ++ line ∷ post) (inside : is_ending line.body ≡ false) where
  abbrev end : Past
  end = runs.0

  none : (n : ℕ) → 0 ≤ n
  none n = omega arith

  -- nothing else is said outside of events
  outside : (ending : List Line) → AreEnding (length (run_events hd r)) ending → end.lines ++ ending ≡ pre ++ line ∷ post →
      length end.lines ≤ length pre → Passes test of hd r.start pre line
  outside [] all same late = absurd (never (length end.lines) (length pre) (length post)
      (ap length (sym (append-nil end.lines)) ∙ ap length same ∙ length-append pre (line ∷ post)) late)
    where
      never : (m n k : ℕ) → m ≡ n + suc k → m ≤ n → ⊥
      never m n k is le = omega (arith, is, le)
  outside (l ∷ []) all same late =
      let z = split end.lines (l ∷ []) pre line post same (level (length end.lines) (length pre) (length post)
      (sym (length-append end.lines (l ∷ [])) ∙ ap length same ∙ length-append pre (line ∷ post)) late) in
      let no_way : true ≡ false = sym all.1 ∙ ap (λ (m : Line). is_ending m.body) (ap (first_or line) z.1) ∙ inside in absurd (cc no_way)
    where
      level : (m n k : ℕ) → m + 1 ≡ n + suc k → m ≤ n → m ≡ n
      level m n k is le = omega (arith, is, le)
  outside (l ∷ m ∷ ls) all same late = absurd all

  pub line_passes : Passes test of hd r.start pre line
  line_passes = by (stands_behind end.lines runs.1 pre line post (sym runs.3 ∙ are))
    where
      by : (length end.lines ≤ length pre) ⊎ ((rest : List Line) × (end.lines ≡ pre ++ line ∷ rest)) → Passes test of hd r.start pre line
      by (inl late) = outside runs.1 runs.4 (sym runs.3 ∙ are) late
      by (inr w) = along_each test of hd r.start (run_events hd r) (at_start r.start) end runs.2 pre line w.0 w.1 (none (length pre)) refl

pub runs_settled : (hd : Header) (r : Run hd) → IsInForm hd r → IsSettled (journal_by hd r)
runs_settled hd r form = record { early = runs_early hd r form; begins = begins }
  where
    begins : GrantsBegan (journal_by hd r)
    begins pre e u o how post are on =
        let z = line_passes is_granted_by is_granted_entry hd r (granted_entry_row hd r form) pre
        (record { event = e; body = body.Granted 1 u o how }) post are refl in
        ap (λ ls. has_act (acts ls) u) (sym z.1)
        ∙ began_of z.0 u o how (ap (λ b. not b || is_granted_by z.0 (body.Granted 1 u o how)) (sym on) ∙ z.2)

-- each restart gives a greater incarnation
pub runs_rise : (hd : Header) (r : Run hd) → IsInForm hd r → UpsRise r.start (journal_by hd r)
runs_rise hd r form pre e n i post are =
    let z = line_passes has_cause is_up hd r (up_row hd r form) pre (record { event = e; body = body.Up n i }) post are refl in
    less (incarnation r.start pre n) i
    ((λ j. nat_lt (incarnation (sym z.3 j) (sym z.1 j) n) i)
    ∙ (and_parts (restarts n (let g = z.0 in g.event)) (nat_lt (incarnation (let g = z.0 in g.start) (let g = z.0 in g.lines) n) i) z.2).1)
  where
    less : (m k : ℕ) → nat_lt m k ≡ true → m < k
    less m k is = grind (arith, nat_tests, is)
