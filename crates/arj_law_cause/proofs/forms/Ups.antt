-- Incarnations that `up` lines say: they rise, so each is at most the one on its node's disk.
use Rattle.arj_law_parts.proofs.Words
use Words.{◌≡◌, ◌≤◌, ◌<◌, ◌+◌, ◌==◌, ◌++◌, ℕ, Bool, true, false, if◌then◌else◌, List, [], ◌∷◌, length, refl, sym, ap, subst, arith, ⊤}
use Words.{nat_lt, nat_tests, append-nil, append_assoc, and_parts, eqb-true, is_some, numbered, AllByRecursion, Option, Some, None}
use Words.{Body, Event, Header, Line, Node, Start, at_place, world_by}
use Words.body
use Rattle.arj_law_promise.proofs.Terms.{all_append}
use Rattle.arj_law_promise.proofs.rooms.Incs.{incs_next}
use Rattle.arj_law_promise.specs.rooms.Actions.{HasIncs}
use Rattle.arj_law_promise.specs.rooms.Incs.{last_inc}
use Rattle.arj_law_runs.proofs.Terms.{Holds, keeps_asked, moves_asked}
use Rattle.arj_law_runs.proofs.follow.Uids.{KnowsNext, next_keep}
use Rattle.arj_law_runs.proofs.kept.Walked.{same_number}
use Rattle.arj_law_runs.specs.addresses.Addresses.{IsNode}
use Rattle.arj_law_runs.specs.follow.Frames.{are_so}
use Rattle.arj_law_serial.proofs.joint.Starting.{start_stays}
use Rattle.arj_model.specs.CauseNodes.{restarts}
use Rattle.arj_model.specs.CauseSpans.{Here, behind, here_at}
use Rattle.arj_model.specs.Follows.{AreEnding, Runs, is_ending}
use Rattle.arj_model.specs.Past.{Along, Past, at_start, next}
use Rattle.arj_model.specs.Refusals.{inc_from, inc_step, incarnation}
use Rattle.arj_promise.specs.Runs.{IsInForm, Run, journal_by}
use Rattle.arj_text.specs.Fields.{WordInForm}
use Rattle.arj_law_cause.proofs.kinds.Up.{up_row}
use Rattle.arj_law_cause.specs.kinds.Kinds.{is_up}
use Rattle.arj_law_cause.specs.kinds.Rows.{RowStep, row}

-- ---- lines

-- the incarnation that a line says is at most the one that is had for its node
abbrev IsLow : (ℕ → ℕ) → Body → Type 0
IsLow f (body.Up n i) = i ≤ f n
IsLow f b = ⊤

abbrev AreLow : (ℕ → ℕ) → List Line → Type 0
AreLow f ls = AllByRecursion (λ (line : Line). IsLow f line.body) ls

-- it is above the one that was had
abbrev IsAbove : (ℕ → ℕ) → Body → Type 0
IsAbove f (body.Up n i) = f n < i
IsAbove f b = ⊤

same_low : (n : ℕ) → n ≤ n
same_low n = omega arith

as_low : (a b : ℕ) → a < b → a ≤ b
as_low a b less = omega (arith, less)

low_on : (a b c : ℕ) → a ≤ b → b ≤ c → a ≤ c
low_on a b c p q = omega (arith, p, q)

low_more : (f g : ℕ → ℕ) → ((n : ℕ) → f n ≤ g n) → (b : Body) → IsLow f b → IsLow g b
low_more f g more (body.Up n i) low = low_on i (f n) (g n) low (more n)
low_more f g more b low = tt

all_more : (f g : ℕ → ℕ) → ((n : ℕ) → f n ≤ g n) → (ls : List Line) → AreLow f ls → AreLow g ls
all_more f g more [] low = tt
all_more f g more (l ∷ ls) low = (low_more f g more l.body low.0, all_more f g more ls low.1)

-- behind a line
inc_on : (n i : ℕ) (ls : List Line) (l : Line) → inc_from n i (ls ++ l ∷ []) ≡ inc_step n l.body (inc_from n i ls)
inc_on n i [] l = refl
inc_on n i (m ∷ ls) l = inc_on n (inc_step n m.body i) ls l

rises : (f : ℕ → ℕ) (b : Body) → IsAbove f b → (n : ℕ) → f n ≤ inc_step n b (f n)
rises f (body.Up m i) above n = by (m == n) refl
  where
    by : (x : Bool) → (m == n) ≡ x → f n ≤ (if x then i else f n)
    by true same = as_low (f n) i (subst (λ k. f k < i) (eqb-true m n same) above)
    by false other = same_low (f n)
rises f b above n = same_low (f n)

its_own : (f : ℕ → ℕ) (b : Body) → IsLow (λ n. inc_step n b (f n)) b
its_own f (body.Up m i) = subst (λ (x : Bool). i ≤ (if x then i else f m)) (sym (same_number m)) (same_low i)
its_own f b = tt

line_low : (st : Start) (ls : List Line) (l : Line) → IsAbove (incarnation st ls) l.body → AreLow (incarnation st ls) ls →
    AreLow (incarnation st (ls ++ l ∷ [])) (ls ++ l ∷ [])
line_low st ls l above low =
    all_more (λ n. inc_step n l.body (incarnation st ls n)) (incarnation st (ls ++ l ∷ []))
    (λ n. subst (λ k. inc_step n l.body (incarnation st ls n) ≤ k) (sym (inc_on n (st.incs n + 1) ls l))
    (same_low (inc_step n l.body (incarnation st ls n)))) (ls ++ l ∷ [])
    (all_append (λ (line : Line). IsLow (λ n. inc_step n l.body (incarnation st ls n)) line.body) ls (l ∷ [])
    (all_more (incarnation st ls) (λ n. inc_step n l.body (incarnation st ls n)) (rises (incarnation st ls) l.body above) ls low)
    (its_own (incarnation st ls) l.body, tt))

-- ---- events

abbrev kind : Here → Body → Bool
kind h = is_up

row_above : (h : Here) (b : Body) → row kind h b ≡ true → IsAbove (incarnation h.start h.lines) b
row_above h (body.Up n i) fits =
    let p = and_parts (restarts n h.event) (nat_lt (incarnation h.start h.lines n) i) fits in less (incarnation h.start h.lines n) i p.1
  where
    less : (a b : ℕ) → nat_lt a b ≡ true → a < b
    less a b is = grind (arith, nat_tests, is)
row_above h b fits = tt

bodies_low : (h : Here) (bs : List Body) → are_so (row kind) h bs ≡ true → AreLow (incarnation h.start h.lines) h.lines →
    AreLow (incarnation h.start (h.lines ++ numbered h.number bs)) (h.lines ++ numbered h.number bs)
bodies_low h [] fits low = subst (λ ls. AreLow (incarnation h.start ls) ls) (sym (append-nil h.lines)) low
bodies_low h (b ∷ bs) fits low =
    let l : Line = record { event = h.number; body = b } in
    let p = and_parts (row kind h b) (are_so (row kind) (behind h b) bs) fits in
    subst (λ ls. AreLow (incarnation h.start ls) ls) (append_assoc h.lines (l ∷ []) (numbered h.number bs))
    (bodies_low (behind h b) bs p.1 (line_low h.start h.lines l (row_above h b p.0) low))

along_low : (hd : Header) (es : List Event) (p end : Past) → Along (RowStep kind hd) p es end → AreLow (incarnation p.start p.lines) p.lines →
    AreLow (incarnation end.start end.lines) end.lines × (end.start ≡ p.start)
along_low hd [] p end a low =
    (subst (λ (q : Past). AreLow (incarnation q.start q.lines) q.lines) a low, ap (λ (q : Past). q.start) (sym a))
along_low hd (e ∷ es) p end a low =
    along_low hd es (next p e a.0) end a.2 (bodies_low (here_at hd p e a.0) a.0 a.1 low)

ending_above : (f : ℕ → ℕ) (b : Body) → is_ending b ≡ true → IsAbove f b
ending_above f (body.Up n i) is = absurd (cc is)
ending_above f b is = tt

ending_low : (st : Start) (ls ending : List Line) (n : ℕ) → AreEnding n ending → AreLow (incarnation st ls) ls →
    AreLow (incarnation st (ls ++ ending)) (ls ++ ending)
ending_low st ls [] n are low = subst (λ xs. AreLow (incarnation st xs) xs) (sym (append-nil ls)) low
ending_low st ls (l ∷ []) n are low = line_low st ls l (ending_above (incarnation st ls) l.body are.1) low
ending_low st ls (l ∷ m ∷ rest) n are low = absurd are

rows_low : (hd : Header) (st : Start) (es : List Event) (ls : List Line) → Runs (RowStep kind hd) st es ls → AreLow (incarnation st ls) ls
rows_low hd st es ls r =
    let a = along_low hd es (at_start st) r.0 r.2 tt in
    subst (λ xs. AreLow (incarnation st xs) xs) (sym r.3) (ending_low st (let p = r.0 in p.lines) r.1 (length es) r.4
    (subst (λ (s : Start). AreLow (incarnation s (let p = r.0 in p.lines)) (let p = r.0 in p.lines)) a.1 a.0))

-- ---- runs

-- an `up` line of a node says a number of 32 bits
abbrev pub IsUpInForm : Header → Body → Type 0
IsUpInForm hd (body.Up n i) = IsNode hd n → WordInForm i
IsUpInForm hd b = ⊤

module _ (hd : Header) (r : Run hd) (form : IsInForm hd r) (has : HasIncs r.start) where
  its_node : (n : ℕ) → IsNode hd n → (x : Node) × (at_place n (let w = world_by hd r in w.nodes) ≡ Some x)
  its_node n is =
      let h : Holds hd KnowsNext (world_by hd r) = moves_asked hd KnowsNext (keeps_asked hd KnowsNext (next_keep hd)) r in
      by (at_place n (let w = world_by hd r in w.nodes)) refl (h.stands.places n is)
    where
      by : (o : Option Node) → at_place n (let w = world_by hd r in w.nodes) ≡ o → is_some o ≡ true →
          (x : Node) × (at_place n (let w = world_by hd r in w.nodes) ≡ Some x)
      by None is none = absurd (cc none)
      by (Some x) is some = (x, is)

  inc_below : (n : ℕ) → IsNode hd n → incarnation r.start (journal_by hd r) n < last_inc
  inc_below n is =
      let h : Holds hd KnowsNext (world_by hd r) = moves_asked hd KnowsNext (keeps_asked hd KnowsNext (next_keep hd)) r in
      let x = its_node n is in
      let known = h.holds.1 n x.0 x.1 in
      below (incarnation r.start (journal_by hd r) n) (let d = (let y = x.0 in y.disk) in d.inc)
      (subst (λ (s : Start). incarnation s (journal_by hd r) n ≤ (let d = (let y = x.0 in y.disk) in d.inc)) (start_stays hd r) known.0)
      (incs_next hd r n x.0 form.few (has (let y = x.0 in y.number)) x.1)
    where
      below : (a b : ℕ) → a ≤ b → b < last_inc → a < last_inc
      below a b p q = omega (arith, p, q)

  body_up : (b : Body) → IsLow (incarnation r.start (journal_by hd r)) b → IsUpInForm hd b
  body_up (body.Up n i) low = λ is. word i (incarnation r.start (journal_by hd r) n) low (inc_below n is)
    where
      word : (i j : ℕ) → i ≤ j → j < last_inc → WordInForm i
      word i j p q = omega (arith, p, q)
  body_up b low = tt

  lines_up : (ls : List Line) → AreLow (incarnation r.start (journal_by hd r)) ls → AllByRecursion (λ (line : Line). IsUpInForm hd line.body) ls
  lines_up [] low = tt
  lines_up (l ∷ ls) low = (body_up l.body low.0, lines_up ls low.1)

  pub runs_say_ups : AllByRecursion (λ (line : Line). IsUpInForm hd line.body) (journal_by hd r)
  runs_say_ups = lines_up (journal_by hd r) (rows_low hd r.start _ (journal_by hd r) (up_row hd r form))
