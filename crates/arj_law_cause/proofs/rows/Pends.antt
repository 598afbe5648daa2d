-- What a store has prepared may be pending by the journal: since the commit was called it was prepared there, or the node stopped, and no
-- end is done since.
use Rattle.arj_law_parts.proofs.Words
use Words.{⊤, ◌≡◌, ◌∙◌, ◌==◌, ◌&&◌, ◌||◌, ◌++◌, ◌+◌, ◌<◌, not, ℕ, zero, suc, Bool, true, false, cond, List, [], ◌∷◌, Option, Some}
use Words.{None, refl, sym}
use Words.{ap, subst, inl, inr, arith, length, find, list_all, and_parts, append_assoc}
use Words.{In, is_on, uid_eq, uid_is, Body, End, Line, Uid}
use Words.{numbered}
use Words.{append-nil, length-append}
use Words.body
use Words.role
use Rattle.arj_law_promise.proofs.Terms.{AreQuiet, at}
use Rattle.arj_law_parts.specs.moves.Seen as seen
use Rattle.arj_law_runs.proofs.Terms.{Act, Placed, acts, acts_after, book, new_book, put, read}
use Rattle.arj_law_runs.proofs.journal.{Closed.stands_lines, Closed.stands_new, Models.act_there, Models.its_acts}
use Rattle.arj_law_runs.proofs.journal.Models.{tells}
use Rattle.arj_law_runs.proofs.kept.Walked.{same_number}
use Rattle.arj_law_runs.specs.journal.Right.{AreRight, has_act}
use Rattle.arj_model.specs.Actions.{top_in}
use Rattle.arj_model.specs.Calls.{committing_of, committings}
use Rattle.arj_model.specs.CausePends.{called_at, halts_preparing, pends, pends_from, pends_step}
use Rattle.arj_model.specs.Past.{Asked as AskedOf}
use Rattle.arj_model.specs.CauseSpans.{holds_in}
use Rattle.arj_model.specs.Refusals.{holds_of, was_called}
use Rattle.std.specs.Prelude.{drop, take}
use Rattle.arj_law.proofs.JoinedCalls.{path_of, top_all}
use Rattle.arj_model.specs.Actions.{acts_from}
use Rattle.arj_law_runs.proofs.journal.Models.{in_later}
use Words.{AllByRecursion}
use Rattle.arj_law_cause.proofs.kinds.Over.{read_later}
use Rattle.arj_law_cause.proofs.kinds.Waiting.{called_is}
use Rattle.arj_law_runs.proofs.journal.Owners.{acts_more}
use Words.{in_find}
use Rattle.arj_law_cause.proofs.rows.Holders.{one_found, one_passes}
use Rattle.arj_law_cause.proofs.waits.waiting.Lists.{any_in}

-- ---- by the journal

-- the place of a commit's call
abbrev pub IsCalledAt : List Line → Uid → Type 0
IsCalledAt lines u = (m : Placed (List Act)) × (called_at lines u ≡ Some m)

-- whether a state of the action may be prepared at the node behind more lines than these, as in `pends_from`
abbrev pub fold : List AskedOf → ℕ → Uid → List Line → Bool → List Line → Bool
fold A n u before on [] = on
fold A n u before on (line ∷ rest) =
    fold A n u (before ++ line ∷ []) (pends_step (halts_preparing A u.node n before line.event) n u line.body on) rest

-- so it may since its commit was called, where these events were accepted
abbrev pub Pends : List AskedOf → List Line → ℕ → Uid → Type 0
Pends A lines n u = holds_in (λ (m : Placed (List Act)). fold A n u (take m.at lines) false (drop m.at lines)) (called_at lines u) ≡ true

-- the line does no end at a store
abbrev pub NoDone : Body → Type 0
NoDone (body.Done n u role.Store e) = ⊥
NoDone b = ⊤

module _ (test : Placed (List Act) → Bool) where
  find_more : (us : List Act) (n : ℕ) (ls ms : List Line) (m : Placed (List Act)) → find test (read committing_of us n ls) ≡ Some m →
      find test (read committing_of us n (ls ++ ms)) ≡ Some m
  find_more us n [] ms m is = absurd (cc is)
  find_more us n (l ∷ ls) ms m is = by (committing_of us l.body) (find_more (acts_after us l.body) (n + 1) ls ms m) is
    where
      by : (o : Option (List Act)) → (find test (read committing_of (acts_after us l.body) (n + 1) ls) ≡ Some m →
          find test (read committing_of (acts_after us l.body) (n + 1) (ls ++ ms)) ≡ Some m) →
          find test (put n o (read committing_of (acts_after us l.body) (n + 1) ls)) ≡ Some m →
          find test (put n o (read committing_of (acts_after us l.body) (n + 1) (ls ++ ms))) ≡ Some m
      by None ih e = ih e
      by (Some p) ih e = one (test (record { at = n; it = p })) e
        where
          one : (b : Bool) → cond b (Some (record { at = n; it = p })) (find test (read committing_of (acts_after us l.body) (n + 1) ls)) ≡
              Some m →
              cond b (Some (record { at = n; it = p })) (find test (read committing_of (acts_after us l.body) (n + 1) (ls ++ ms))) ≡ Some m
          one true f = f
          one false f = ih f

  find_place : (us : List Act) (n : ℕ) (ls : List Line) (m : Placed (List Act)) → find test (read committing_of us n ls) ≡ Some m →
      m.at < n + length ls
  find_place us n [] m is = absurd (cc is)
  find_place us n (l ∷ ls) m is = by (committing_of us l.body) (find_place (acts_after us l.body) (n + 1) ls m) is
    where
      by : (o : Option (List Act)) → (find test (read committing_of (acts_after us l.body) (n + 1) ls) ≡ Some m → m.at < n + 1 + length ls)
          →
          find test (put n o (read committing_of (acts_after us l.body) (n + 1) ls)) ≡ Some m → m.at < n + suc (length ls)
      by None ih e = let less = ih e in omega (arith, less)
      by (Some p) ih e = one (test (record { at = n; it = p })) e
        where
          one : (b : Bool) → cond b (Some (record { at = n; it = p })) (find test (read committing_of (acts_after us l.body) (n + 1) ls)) ≡
              Some m →
              m.at < n + suc (length ls)
          one true f = let same : record { at = n; it = p } ≡ m = (let k : ◌≡◌ {A = Option (Placed (List Act))}
              (Some (record { at = n; it = p })) (Some m) = f in cc k) in
              let here : n ≡ m.at = ap (λ (z : Placed (List Act)). z.at) same in omega (arith, here)
          one false f = let less = ih f in omega (arith, less)

drop_more : (n : ℕ) (xs ys : List Line) → n < length xs → drop n (xs ++ ys) ≡ drop n xs ++ ys
drop_more zero xs ys less = refl
drop_more (suc n) [] ys less = absurd (omega (arith, less))
drop_more (suc n) (x ∷ xs) ys less = drop_more n xs ys (omega (arith, less))

take_more : (n : ℕ) (xs ys : List Line) → n < length xs → take n (xs ++ ys) ≡ take n xs
take_more zero xs ys less = refl
take_more (suc n) [] ys less = absurd (omega (arith, less))
take_more (suc n) (x ∷ xs) ys less = ap (λ ls. x ∷ ls) (take_more n xs ys (omega (arith, less)))

take_drop : (n : ℕ) (xs : List Line) → take n xs ++ drop n xs ≡ xs
take_drop zero xs = refl
take_drop (suc n) [] = refl
take_drop (suc n) (x ∷ xs) = ap (λ ls. x ∷ ls) (take_drop n xs)

its_place : (ls : List Line) (u : Uid) (m : Placed (List Act)) → called_at ls u ≡ Some m → m.at < length ls
its_place ls u m is =
    let less = find_place (λ (z : Placed (List Act)). holds_in (λ (top : Act). uid_eq top.uid u) (top_in z.it)) [] 0 ls m is in
    omega (arith, less)

take_first : (xs ys : List Line) → take (length xs) (xs ++ ys) ≡ xs
take_first [] ys = by ys
  where
    by : (ys : List Line) → take 0 ys ≡ []
    by ys = refl
take_first (x ∷ xs) ys = ap (λ ls. x ∷ ls) (take_first xs ys)

take_long : (n : ℕ) (xs : List Line) → n < length xs → length (take n xs) ≡ n
take_long zero xs less = refl
take_long (suc n) [] less = absurd (omega (arith, less))
take_long (suc n) (x ∷ xs) less = ap suc (take_long n xs (omega (arith, less)))

one_long : (xs : List Line) (x : Line) → length xs + 1 ≡ length (xs ++ x ∷ [])
one_long xs x = let long = length-append xs (x ∷ []) in omega (arith, long)

pub or_last : (b : Bool) → (b || true) ≡ true
or_last true = refl
or_last false = refl

off_by : (b : Bool) → b ≡ false → (true && not b) ≡ true
off_by b is = ap not is

-- a line that does no end there keeps it
pub step_on : (p : Bool) (n : ℕ) (u : Uid) (b : Body) → NoDone b → pends_step p n u b true ≡ true
step_on z n u (body.Prepared m v role.Store) free = refl
step_on z n u (body.Prepared m v role.Names) free = refl
step_on z n u (body.Halted m) free = refl
step_on z n u (body.Done m v role.Store e) free = absurd free
step_on z n u (body.Done m v role.Names e) free = refl
step_on z n u (body.Began p q r s) free = refl
step_on z n u (body.Ok p q r s) free = refl
step_on z n u (body.Includes p q r) free = refl
step_on z n u (body.Conflict p q r s) free = refl
step_on z n u (body.Lost p q) free = refl
step_on z n u (body.Changed p q r) free = refl
step_on z n u (body.Committing p) free = refl
step_on z n u (body.Committed p) free = refl
step_on z n u (body.Aborted p q) free = refl
step_on z n u (body.Ended p) free = refl
step_on z n u (body.GaveUp p q) free = refl
step_on z n u (body.Excluded p q r) free = refl
step_on z n u (body.Granted p q r s) free = refl
step_on z n u (body.Lowered p q r) free = refl
step_on z n u (body.Bound p q r) free = refl
step_on z n u (body.Active p q r) free = refl
step_on z n u (body.Told p q r s) free = refl
step_on z n u (body.Sent p q r s) free = refl
step_on z n u (body.Got p) free = refl
step_on z n u (body.Void p) free = refl
step_on z n u (body.Dropped p) free = refl
step_on z n u (body.Up p q) free = refl
step_on z n u (body.Armed p) free = refl
step_on z n u (body.Recovered p q) free = refl
step_on z n u (body.Refused p) free = refl
step_on z n u (body.Entry p q r s) free = refl
step_on z n u (body.Copy p q r s v) free = refl
step_on z n u (body.Quiet p) free = refl
step_on z n u (body.Bad p) free = refl
step_on z n u (body.Limit p) free = refl

pub quiet_none : (b : Body) → seen.is_quiet_line b ≡ true → NoDone b
quiet_none (body.Done n u role.Store e) is = absurd (cc is)
quiet_none (body.Done n u role.Names e) is = tt
quiet_none b is = tt

module _ (A : List AskedOf) where
  fold_more : (n : ℕ) (u : Uid) (before : List Line) (on : Bool) (xs ys : List Line) →
      fold A n u before on (xs ++ ys) ≡ fold A n u (before ++ xs) (fold A n u before on xs) ys
  fold_more n u before on [] ys = ap (λ ls. fold A n u ls on ys) (sym (append-nil before))
  fold_more n u before on (x ∷ xs) ys =
      let now = pends_step (halts_preparing A u.node n before x.event) n u x.body on in
      fold_more n u (before ++ x ∷ []) now xs ys
      ∙ ap (λ ls. fold A n u ls (fold A n u (before ++ x ∷ []) now xs) ys) (append_assoc before (x ∷ []) xs)

  -- by the place of the call
  pub pends_at : (ls ms : List Line) (n : ℕ) (u : Uid) (m : Placed (List Act)) → called_at ls u ≡ Some m →
      holds_in (λ (z : Placed (List Act)). fold A n u (take z.at (ls ++ ms)) false (drop z.at (ls ++ ms))) (called_at (ls ++ ms) u)
      ≡ fold A n u ls (fold A n u (take m.at ls) false (drop m.at ls)) ms
  pends_at ls ms n u m is =
      ap (holds_in (λ (z : Placed (List Act)). fold A n u (take z.at (ls ++ ms)) false (drop z.at (ls ++ ms))))
      (find_more (λ (z : Placed (List Act)). holds_in (λ (top : Act). uid_eq top.uid u) (top_in z.it)) [] 0 ls ms m is)
      ∙ ap (λ ys. fold A n u ys false (drop m.at (ls ++ ms))) (take_more m.at ls ms place)
      ∙ ap (fold A n u (take m.at ls) false) (drop_more m.at ls ms place)
      ∙ fold_more n u (take m.at ls) false (drop m.at ls) ms
      ∙ ap (λ ys. fold A n u ys (fold A n u (take m.at ls) false (drop m.at ls)) ms) (take_drop m.at ls)
    where
      place : m.at < length ls
      place = its_place ls u m is

  -- it goes on behind lines that keep it
  abbrev pub Keeping : ℕ → Uid → List Line → Type 0
  Keeping n u ms = (before : List Line) → fold A n u before true ms ≡ true

  pub pends_more : (ls ms : List Line) (n : ℕ) (u : Uid) → Keeping n u ms → Pends A ls n u → Pends A (ls ++ ms) n u
  pends_more ls ms n u keeps is = by (called_at ls u) refl is
    where
      by : (o : Option (Placed (List Act))) → called_at ls u ≡ o →
          holds_in (λ (z : Placed (List Act)). fold A n u (take z.at ls) false (drop z.at ls)) o ≡ true →
          Pends A (ls ++ ms) n u
      by None none e = absurd (cc e)
      by (Some m) some e = pends_at ls ms n u m some ∙ ap (λ b. fold A n u ls b ms) e ∙ keeps ls

  -- and begins with a line that turns it on
  pub pends_new : (ls : List Line) (e n : ℕ) (b : Body) (u : Uid) → IsCalledAt ls u →
      ((on : Bool) → pends_step (halts_preparing A u.node n ls e) n u b on ≡ true) → Pends A (ls ++ numbered e (b ∷ [])) n u
  pends_new ls e n b u c on = pends_at ls (numbered e (b ∷ [])) n u c.0 c.1
      ∙ on (fold A n u (take (let m = c.0 in m.at) ls) false (drop (let m = c.0 in m.at) ls))

  pub step_keeps : (e n : ℕ) (u : Uid) (b : Body) → NoDone b → Keeping n u (numbered e (b ∷ []))
  step_keeps e n u b free = λ before. step_on (halts_preparing A u.node n before e) n u b free

  -- nor does one of another node, or of another action
  pub done_keeps : (i n k : ℕ) (u w : Uid) (e : End) → ((k == n) && uid_eq w u) ≡ false →
      Keeping n u (numbered i (body.Done k w role.Store e ∷ []))
  done_keeps i n k u w e is = λ before. off_by ((k == n) && uid_eq w u) is

  -- lines that do none
  pub all_keep : (e : ℕ) (bs : List Body) (n : ℕ) (u : Uid) → AllByRecursion NoDone bs → Keeping n u (numbered e bs)
  all_keep e [] n u all = λ before. refl
  all_keep e (b ∷ bs) n u all =
      λ before. ap (λ z. fold A n u (before ++ record { event = e; body = b } ∷ []) z (numbered e bs))
      (step_on (halts_preparing A u.node n before e) n u b all.0)
      ∙ all_keep e bs n u all.1 (before ++ record { event = e; body = b } ∷ [])

  pub quiet_keeps : (e : ℕ) (bs : List Body) (n : ℕ) (u : Uid) → AreQuiet bs → Keeping n u (numbered e bs)
  quiet_keeps e bs n u quiet = all_keep e bs n u (each bs quiet)
    where
      each : (cs : List Body) → AreQuiet cs → AllByRecursion NoDone cs
      each [] q = tt
      each (c ∷ cs) q = let p = and_parts (seen.is_quiet_line c) (list_all seen.is_quiet_line cs) q in (quiet_none c p.0, each cs p.1)

  -- that is `pends`
  from_is : (n : ℕ) (u : Uid) (rest before : List Line) (on : Bool) → pends_from A n u (before ++ rest) (length before) on rest
      ≡ fold A n u before on rest
  from_is n u [] before on = refl
  from_is n u (line ∷ rest) before on =
      (λ i. pends_from A n u (before ++ line ∷ rest) (length before + 1)
      (pends_step (halts_preparing A u.node n (take_first before (line ∷ rest) i) line.event) n u line.body on) rest)
      ∙ (λ i. pends_from A n u (sym (append_assoc before (line ∷ []) rest) i) (one_long before line i)
      (pends_step (halts_preparing A u.node n before line.event) n u line.body on) rest)
      ∙ from_is n u rest (before ++ line ∷ []) (pends_step (halts_preparing A u.node n before line.event) n u line.body on)

  pub pends_are : (lines : List Line) (n : ℕ) (u : Uid) → Pends A lines n u → pends A n u lines ≡ true
  pends_are lines n u is = by (called_at lines u) refl is
    where
      by : (o : Option (Placed (List Act))) → called_at lines u ≡ o →
          holds_in (λ (z : Placed (List Act)). fold A n u (take z.at lines) false (drop z.at lines)) o ≡ true →
          holds_in (λ (z : Placed (List Act)). pends_from A n u lines z.at false (drop z.at lines)) o ≡ true
      by None none e = e
      by (Some m) some e =
          (λ i. pends_from A n u (sym (take_drop m.at lines) i) (sym (take_long m.at lines (its_place lines u m some)) i) false
          (drop m.at lines))
          ∙ from_is n u (drop m.at lines) (take m.at lines) false ∙ e

-- the call of a commit names actions that began
pub item_there : (us : List Act) (n : ℕ) (ls : List Line) (m : Placed (List Act)) → In m (read committing_of us n ls) → (t : Act) →
    top_in m.it ≡ Some t → In t (acts_from us ls)
item_there us n [] m there t is = absurd there
item_there us n (l ∷ ls) m there t is = by (committing_of us l.body) refl there (λ i. item_there (acts_after us l.body) (n + 1) ls m i t is)
  where
    by : (o : Option (List Act)) → committing_of us l.body ≡ o → In m (put n o (read committing_of (acts_after us l.body) (n + 1) ls)) →
        (In m (read committing_of (acts_after us l.body) (n + 1) ls) → In t (acts_from (acts_after us l.body) ls)) →
        In t (acts_from (acts_after us l.body) ls)
    by None none i later = later i
    by (Some p) some (inr i) later = later i
    by (Some p) some (inl same) later = in_later (l ∷ ls) us t (top_all (λ (a : Act). In a us) p t
        (path_of (λ (a : Act). In a us) us l.body p (each us (λ a i. i)) some)
        (ap top_in (ap (λ (z : Placed (List Act)). z.it) same) ∙ is))
      where
        each : (xs : List Act) → ((a : Act) → In a xs → In a us) → AllByRecursion (λ (a : Act). In a us) xs
        each [] to = tt
        each (x ∷ xs) to = (to x (inl refl), each xs (λ a i. to a (inr i)))

-- whose commit these lines call began by then
pub called_act : (ls : List Line) (v : Uid) → IsCalledAt ls v →
    (t : Act) × In t (acts ls) × (t.uid ≡ v) × (was_called (committings ls) t.id ≡ true)
called_act ls v at = by (top_in (let z = at.0 in z.it)) refl found.1
  where
    found : In at.0 (committings ls) × (holds_in (λ (top : Act). uid_eq top.uid v) (top_in (let z = at.0 in z.it)) ≡ true)
    found = in_find (λ (z : Placed (List Act)). holds_in (λ (top : Act). uid_eq top.uid v) (top_in z.it)) at.0 (committings ls) at.1

    by : (o : Option Act) → top_in (let z = at.0 in z.it) ≡ o → holds_in (λ (top : Act). uid_eq top.uid v) o ≡ true →
        (t : Act) × In t (acts ls) × (t.uid ≡ v) × (was_called (committings ls) t.id ≡ true)
    by None top is = absurd (cc is)
    by (Some t) top is = (
      t,
      item_there [] 0 ls at.0 found.0 t top,
      uid_is t.uid v is,
      any_in (λ (z : Placed (List Act)). holds_of (λ (a : Act). a.id == t.id) (top_in z.it)) (committings ls) at.0 found.0
          (ap (holds_of (λ (a : Act). a.id == t.id)) top ∙ same_number t.id),
    )

-- and the book has so, behind more lines
pub called_book : (lines : List Line) → AreRight new_book lines → (ls ms : List Line) → lines ≡ ls ++ ms → (v : Uid) → IsCalledAt ls v →
    is_on (let B = book lines in B.called) v ≡ true
called_book lines right ls ms are v at =
    let c = called_act ls v at in
    let t = c.0 in
    let there : In t (acts lines) = subst (λ ks. In t (acts ks)) (sym are)
    (subst (In t) (sym (acts_more [] ls ms)) (in_later ms (acts ls) t c.1)) in
    subst (λ w. is_on (let B = book lines in B.called) w ≡ true) c.2
    (sym (called_is lines right t there) ∙ subst (λ ks. was_called (committings ks) t.id ≡ true) (sym are)
    (read_later committing_of (λ (z : Placed (List Act)). holds_in (λ (a : Act). a.id == t.id) (top_in z.it)) [] 0 ls ms c.3))

-- a commit that the book has as called has its place
pub called_place : (lines : List Line) → AreRight new_book lines → (u : Uid) → is_on (let B = book lines in B.called) u ≡ true → IsCalledAt
    lines u
called_place lines right u on = some (called_at lines u) refl (one_found
    (λ (z : Placed (List Act)). holds_in (λ (top : Act). uid_eq top.uid u) (top_in z.it))
    (committings lines) (any_in (λ (z : Placed (List Act)). holds_in (λ (top : Act). uid_eq top.uid u) (top_in z.it)) (committings lines)
    m.0 m.1
    (at_top (top_in (let z = m.0 in z.it)) refl m.2)))
  where
    begun : (a : Act) × In a (acts lines) × (a.uid ≡ u)
    begun = act_there (acts lines) u (subst (λ xs. has_act xs u ≡ true) (its_acts lines right)
        (let z = stands_lines new_book lines right stands_new in let s = z.sane in s.called u on))

    m : (z : Placed (List Act)) × In z (committings lines) × (holds_of (λ (top : Act). top.id == (let a = begun.0 in a.id)) (top_in z.it) ≡
        true)
    m = one_passes (λ (z : Placed (List Act)). holds_of (λ (top : Act). top.id == (let a = begun.0 in a.id)) (top_in z.it))
        (committings lines)
        (called_is lines right begun.0 begun.1 ∙ ap (is_on (let B = book lines in B.called)) begun.2 ∙ on)

    at_top : (t : Option Act) → top_in (let z = m.0 in z.it) ≡ t → holds_of (λ (top : Act). top.id == (let a = begun.0 in a.id)) t ≡ true →
        holds_in (λ (top : Act). uid_eq top.uid u) t ≡ true
    at_top None none e = absurd (cc e)
    at_top (Some t) some e = ap (uid_eq t.uid) (sym begun.2)
        ∙ sym (tells lines right begun.0 begun.1 t (item_there [] 0 lines m.0 m.1 t some)) ∙ e

    some : (o : Option (Placed (List Act))) → called_at lines u ≡ o → holds_in (λ (a : Placed (List Act)). true) o ≡ true → IsCalledAt
        lines u
    some None is e = absurd (cc e)
    some (Some z) is e = (z, is)
