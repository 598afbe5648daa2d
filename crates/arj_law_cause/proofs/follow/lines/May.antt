-- Lines of work as those that may stand in an event of each kind.
use Rattle.arj_law_parts.proofs.Words
use Words.{◌≡◌, ◌⊎◌, ◌∙◌, ◌==◌, ◌&&◌, ◌||◌, ◌++◌, ℕ, Bool, true, false, List, [], ◌∷◌, refl, sym, ap, subst, inl, inr, ⊎_elim, list_all}
use Words.{and_parts, or_left, or_right, Body, Event, Label, name, bytes_eq}
use Words.body
use Words.cause
use Words.event
use Rattle.arj_law_cause.proofs.follow.lines.Fitting
use Fitting.{message_works}
use Rattle.arj_law_cause.proofs.follow.lines.Framed.{ArePlain, is_delivery_of, is_taken}
use Rattle.arj_law_cause.proofs.follow.lines.Saying
use Saying.{Goes, Halts, Through, fits}
use Rattle.arj_law_cause.proofs.follow.lines.Steps
use Steps.{finds, loses}
use Rattle.arj_law_cause.proofs.follow.lines.Working.{works}
use Rattle.arj_law_cause.specs.follow.lines.Lines.{may_stand_or_lose}
use Rattle.arj_model.specs.Own as own
use Rattle.arj_law_cause.proofs.follow.lines.Several.{stands}

-- ---- lines as those that may stand

module _ (e : Event) where
  -- work may stand in an event of these kinds
  abbrev pub takes_work : Event → Bool
  takes_work (event.Call l x o) = true
  takes_work (event.Include l x n) = true
  takes_work (event.Commit l) = true
  takes_work (event.Abort l) = true
  takes_work (event.Deliver k) = true
  takes_work (event.Tick n) = true
  takes_work _ = false

  work_or_lost : (b : Body) → fits works b ≡ true → (own.is_work b ≡ true) ⊎ ((l : Label) × (n : ℕ) × (b ≡ body.Lost l n))
  work_or_lost (body.Lost l n) is = inr (l, n, refl)
  work_or_lost (body.Sent k from to what) is = inl (message_works (body.Sent k from to what) is)
  work_or_lost (body.Aborted l c) is = inl (or_none (own.is_refusal_of_commit c) is)
    where
      or_none : (z : Bool) → (z || false) ≡ true → z ≡ true
      or_none true e = refl
      or_none false e = e
  work_or_lost (body.Ok l x o r) is = inl refl
  work_or_lost (body.Includes l x n) is = inl refl
  work_or_lost (body.Conflict l h m n) is = inl refl
  work_or_lost (body.Changed l n d) is = inl refl
  work_or_lost (body.Committed l) is = inl refl
  work_or_lost (body.Excluded l x n) is = inl refl
  work_or_lost (body.Granted n u o m) is = inl refl
  work_or_lost (body.Lowered n u o) is = inl refl
  work_or_lost (body.Bound x b n) is = inl refl
  work_or_lost (body.Active n x b) is = inl refl
  work_or_lost (body.Told n u e p) is = inl refl
  work_or_lost (body.Prepared n u r) is = inl refl
  work_or_lost (body.Done n u r e) is = inl refl
  work_or_lost b is = absurd (cc is)

  -- the line may stand where work may
  pub may_by : (may : Body → Bool) → ((l : Label) (n : ℕ) → may (body.Lost l n) ≡ true) → ((b : Body) → own.is_work b ≡ true → may b
      ≡ true) →
      (b : Body) → fits works b ≡ true → may b ≡ true
  may_by may lost work b is = ⊎_elim (λ w. work b w) (λ l. ap may l.2 ∙ lost l.0 l.1) (work_or_lost b is)

pub work_stands : (e : Event) → takes_work e e ≡ true → (b : Body) → own.is_work b ≡ true → may_stand_or_lose e b ≡ true
work_stands e takes (body.Lost l n) is = refl
work_stands (event.Call l x o) takes b is = is
work_stands (event.Include l x n) takes b is = is
work_stands (event.Commit l) takes b is = is
work_stands (event.Abort l) takes b is = is
work_stands (event.Deliver k) takes b is = is
work_stands (event.Tick n) takes b is = is
work_stands e takes b is = absurd (cc takes)

-- ---- what an event adds

pub restart_may : (n : ℕ) (b : Body) → fits (finds n) b ≡ true → may_stand_or_lose (event.Restart n) b ≡ true
restart_may n (body.Recovered m u) is = or_none (m == n) is
  where
    or_none : (z : Bool) → (z || false) ≡ true → z ≡ true
    or_none true e = refl
    or_none false e = e
restart_may n (body.Lost l m) is = refl
restart_may n (body.Sent k from to what) is = message_works (body.Sent k from to what) is
restart_may n (body.Aborted l c) is = or_none (own.is_refusal_of_commit c) is
  where
    or_none : (z : Bool) → (z || false) ≡ true → z ≡ true
    or_none true e = refl
    or_none false e = e
restart_may n (body.Ok l x o r) is = refl
restart_may n (body.Includes l x m) is = refl
restart_may n (body.Conflict l h m k) is = refl
restart_may n (body.Changed l m d) is = refl
restart_may n (body.Committed l) is = refl
restart_may n (body.Excluded l x m) is = refl
restart_may n (body.Granted m u o k) is = refl
restart_may n (body.Lowered m u o) is = refl
restart_may n (body.Bound x b m) is = refl
restart_may n (body.Active m x b) is = refl
restart_may n (body.Told m u e p) is = refl
restart_may n (body.Prepared m u r) is = refl
restart_may n (body.Done m u r e) is = refl
restart_may n b is = absurd (cc is)

pub giveup_may : (l : Label) (b : Body) → fits (loses l) b ≡ true → may_stand_or_lose (event.GiveUp l) b ≡ true
giveup_may l (body.Lost m n) is = refl
giveup_may l (body.Aborted m (cause.Lost n)) is = or_none (bytes_eq (name m) (name l)) is
  where
    or_none : (z : Bool) → (z || false) ≡ true → z ≡ true
    or_none true e = refl
    or_none false e = e
giveup_may l (body.Aborted m c) is = or_none (own.is_refusal_of_commit c) is
  where
    or_none : (z : Bool) → (z || false) ≡ true → z ≡ true
    or_none true e = refl
    or_none false e = e
giveup_may l (body.Sent k from to what) is = message_works (body.Sent k from to what) is
giveup_may l (body.Ok m x o r) is = refl
giveup_may l (body.Includes m x n) is = refl
giveup_may l (body.Conflict m h j k) is = refl
giveup_may l (body.Changed m n d) is = refl
giveup_may l (body.Committed m) is = refl
giveup_may l (body.Excluded m x n) is = refl
giveup_may l (body.Granted n u o k) is = refl
giveup_may l (body.Lowered n u o) is = refl
giveup_may l (body.Bound x b n) is = refl
giveup_may l (body.Active n x b) is = refl
giveup_may l (body.Told n u e p) is = refl
giveup_may l (body.Prepared n u r) is = refl
giveup_may l (body.Done n u r e) is = refl
giveup_may l b is = absurd (cc is)

-- in a settle and a quiesce more may stand
abbrev pub settles : Event → Bool
settles event.Settle = true
settles event.Quiesce = true
settles _ = false

settle_by : (may : Body → Bool) → ((l : Label) (n : ℕ) → may (body.Lost l n) ≡ true) → ((b : Body) → own.is_work b ≡ true → may b ≡ true) →
    ((b : Body) → own.is_delivery b ≡ true → may b ≡ true) → (b : Body) → stands b ≡ true → may b ≡ true
settle_by may lost work taken (body.Got k) is = taken (body.Got k) refl
settle_by may lost work taken (body.Void k) is = taken (body.Void k) refl
settle_by may lost work taken (body.Halted n) is = work (body.Halted n) refl
settle_by may lost work taken (body.Lost l n) is = lost l n
settle_by may lost work taken (body.Sent k from to what) is =
    work (body.Sent k from to what) (message_works (body.Sent k from to what) is)
settle_by may lost work taken (body.Aborted l c) is = work (body.Aborted l c) (or_none (own.is_refusal_of_commit c) is)
  where
    or_none : (z : Bool) → (z || false) ≡ true → z ≡ true
    or_none true e = refl
    or_none false e = e
settle_by may lost work taken (body.Ok l x o r) is = work (body.Ok l x o r) refl
settle_by may lost work taken (body.Includes l x n) is = work (body.Includes l x n) refl
settle_by may lost work taken (body.Conflict l h m n) is = work (body.Conflict l h m n) refl
settle_by may lost work taken (body.Changed l n d) is = work (body.Changed l n d) refl
settle_by may lost work taken (body.Committed l) is = work (body.Committed l) refl
settle_by may lost work taken (body.Excluded l x n) is = work (body.Excluded l x n) refl
settle_by may lost work taken (body.Granted n u o m) is = work (body.Granted n u o m) refl
settle_by may lost work taken (body.Lowered n u o) is = work (body.Lowered n u o) refl
settle_by may lost work taken (body.Bound x b n) is = work (body.Bound x b n) refl
settle_by may lost work taken (body.Active n x b) is = work (body.Active n x b) refl
settle_by may lost work taken (body.Told n u e p) is = work (body.Told n u e p) refl
settle_by may lost work taken (body.Prepared n u r) is = work (body.Prepared n u r) refl
settle_by may lost work taken (body.Done n u r e) is = work (body.Done n u r e) refl
settle_by may lost work taken b is = absurd (cc is)

pub settle_may : (e : Event) → settles e ≡ true → (b : Body) → stands b ≡ true → may_stand_or_lose e b ≡ true
settle_may event.Settle its b is = settle_by (may_stand_or_lose event.Settle) (λ l n. refl) work taken b is
  where
    work : (c : Body) → own.is_work c ≡ true → may_stand_or_lose event.Settle c ≡ true
    work (body.Lost l n) w = refl
    work c w = or_left (own.is_work c) (own.is_delivery c) w

    taken : (c : Body) → own.is_delivery c ≡ true → may_stand_or_lose event.Settle c ≡ true
    taken (body.Lost l n) w = refl
    taken c w = or_right (own.is_work c) (own.is_delivery c) w
settle_may event.Quiesce its b is = settle_by (may_stand_or_lose event.Quiesce) (λ l n. refl) work taken b is
  where
    work : (c : Body) → own.is_work c ≡ true → may_stand_or_lose event.Quiesce c ≡ true
    work (body.Lost l n) w = refl
    work c w = or_left (own.is_work c) (own.is_delivery c) w

    taken : (c : Body) → own.is_delivery c ≡ true → may_stand_or_lose event.Quiesce c ≡ true
    taken (body.Lost l n) w = refl
    taken c w = or_right (own.is_work c) (own.is_delivery c) w
settle_may e its b is = absurd (cc its)

-- ---- deliveries

-- no line of a kind is one of a delivery
pub no_delivery : (e : Event) (T : Body → Bool) (k : ℕ) (bs : List Body) → ((j : ℕ) → T (body.Got j) ≡ false) → ((j : ℕ) → T (body.Void j)
    ≡ false) →
    Goes T k bs → ArePlain e bs
no_delivery e T k bs got void (Through all) = plain bs all
  where
    off : (b : Body) → fits T b ≡ true → (is_delivery_of e && is_taken b) ≡ false
    off (body.Got j) is = absurd (cc (sym is ∙ (λ i. got j i || false)))
    off (body.Void j) is = absurd (cc (sym is ∙ (λ i. void j i || false)))
    off b is = and_false (is_delivery_of e)
      where
        and_false : (z : Bool) → (z && false) ≡ false
        and_false true = refl
        and_false false = refl

    plain : (cs : List Body) → list_all (fits T) cs ≡ true → ArePlain e cs
    plain [] all = tt
    plain (c ∷ cs) all = let r = and_parts (fits T c) (list_all (fits T) cs) all in (off c r.0, plain cs r.1)
no_delivery e T k bs got void (Halts front all is) = subst (ArePlain e) (sym is) (plain front all)
  where
    and_false : (z : Bool) → (z && false) ≡ false
    and_false true = refl
    and_false false = refl

    off : (b : Body) → fits T b ≡ true → (is_delivery_of e && is_taken b) ≡ false
    off (body.Got j) is = absurd (cc (sym is ∙ (λ i. got j i || false)))
    off (body.Void j) is = absurd (cc (sym is ∙ (λ i. void j i || false)))
    off b is = and_false (is_delivery_of e)

    plain : (cs : List Body) → list_all (fits T) cs ≡ true → ArePlain e (cs ++ body.Halted k ∷ [])
    plain [] all = (and_false (is_delivery_of e), tt)
    plain (c ∷ cs) all = let r = and_parts (fits T c) (list_all (fits T) cs) all in (off c r.0, plain cs r.1)

-- an event that delivers no frame of its own
pub plain_all : (e : Event) → is_delivery_of e ≡ false → (bs : List Body) → ArePlain e bs
plain_all e off [] = tt
plain_all e off (b ∷ bs) = ((λ i. off i && is_taken b), plain_all e off bs)
