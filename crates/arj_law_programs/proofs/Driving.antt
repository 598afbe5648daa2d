-- The whole schedule, event by event: what each program has heard is what the journal has of it.
use Rattle.std.proofs.Common.{◌≡◌, ◌∙◌, ◌⊎◌, inl, inr, ℕ, ◌+◌, List, [], ◌∷◌, ◌++◌, refl, ap, sym, subst, true, false}
use Rattle.std.proofs.Common.{Bool, Option, None, cond, append-nil, true≢false, if◌then◌else◌}
use Rattle.std.specs.Prelude.{⊤}
use Rattle.std.specs.List.{AllByRecursion}
use Rattle.std.proofs.lemmas.List.{append_assoc}
use Rattle.arj_journal.specs.declared.body.Body.{Body}
use Rattle.arj_journal.specs.declared.body.Body.TheVariants as body
use Rattle.arj_journal.specs.declared.body.Line.{Line}
use Rattle.arj_journal.specs.declared.event.Event.{Event}
use Rattle.arj_model.specs.Actions.{acts, committed}
use Rattle.arj_model.specs.Calls.{committings}
use Rattle.arj_model.specs.Follows.{is_ending}
use Rattle.arj_model.specs.Past.{Asked, Past, asked_of, block, is_refused, next}
use Rattle.arj_model.specs.Refusals.{asks_by}
use Rattle.arj_progrun.specs.Client.{Ask, Client, Quiesces, hears}
use Rattle.arj_progrun.specs.Client.{refused_at}
use Rattle.arj_progrun.specs.Events.{ask_of}
use Rattle.arj_progrun.specs.Schedule.{Standing, all_hear}
use Rattle.arj_progrun.specs.Schedule.{is_by, line_heard, lines_heard, own}
use Rattle.arj_law_programs.proofs.Asking.{asks_more, asks_with}
use Rattle.arj_law_programs.proofs.Later.{Both, IsNamed, Role, Stand, count, heard_all, hears_all, hears_first}
use Rattle.arj_law_programs.proofs.Later.{ended_still, holds_next, stand_next, unread}
use Rattle.arj_law_programs.proofs.Hearing.{count_more, next_count}
use Rattle.arj_law_programs.proofs.Numbers.{hears_number}
use Rattle.arj_law_programs.proofs.Tracking.{Asks, Counted, Holds}
use Rattle.arj_law_programs.proofs.Views.{AreCalled, View, sound_still, view}
use Rattle.arj_law_programs.proofs.Fits.{AreFit, FirstFits, LaterFit, LaterFits, bodies_of}

-- ---- lists of programs

-- so it is of each, of which the first has this number
abbrev pub AllHold : View → Asks → Counted → ℕ → List Client → Type 0
AllHold v asks ans k [] = ⊤
AllHold v asks ans k (c ∷ cs) = (c.number ≡ k) × Holds v asks ans c × AllHold v asks ans (k + 1) cs

-- A program as an event comes: where it is accepted, and where it is refused.
pub record Mid (v : View) (asks : Asks) (ans : Counted) (ask : Ask) (own : Bool) (k : ℕ) (c : Client) : Type 0 where
  pub number : c.number ≡ k
  pub accepted : (e : Event) (x : Asked) → ask_of e ≡ ask → x.event ≡ e → Holds v (asks_with e x asks) ans c
  pub refused : Holds v asks ans (if own then refused_at c.phase c else c)
  pub role : Role ask c

abbrev pub AllMid : View → Asks → Counted → Ask → Option ℕ → ℕ → List Client → Type 0
AllMid v asks ans ask by at [] = ⊤
AllMid v asks ans ask by at (c ∷ cs) = Mid v asks ans ask (is_by by at) (at + 1) c × AllMid v asks ans ask by (at + 1) cs

-- ---- lines that all hear

abbrev pub hear_lines : Option ℕ → ℕ → List Body → List Client → List Client
hear_lines by at bs [] = []
hear_lines by at bs (c ∷ cs) = heard_all (is_by by at) bs c ∷ hear_lines by (at + 1) bs cs

hear_none : (by : Option ℕ) (at : ℕ) (cs : List Client) → cs ≡ hear_lines by at [] cs
hear_none by at [] = refl
hear_none by at (c ∷ cs) = ap (λ ds. c ∷ ds) (hear_none by (at + 1) cs)

hear_more : (by : Option ℕ) (at : ℕ) (b : Body) (bs : List Body) (cs : List Client) →
    hear_lines by at bs (all_hear by at b cs) ≡ hear_lines by at (b ∷ bs) cs
hear_more by at b bs [] = refl
hear_more by at b bs (c ∷ cs) = ap (λ ds. heard_all (is_by by at) bs (hears b (is_by by at) c) ∷ ds) (hear_more by (at + 1) b bs cs)

pub lines_all : (by : Option ℕ) (lines : List Line) (s : Standing) →
    (let e = lines_heard by lines s in e.clients) ≡ hear_lines by 0 (bodies_of lines) s.clients
lines_all by [] s = hear_none by 0 s.clients
lines_all by (x ∷ lines) s = lines_all by lines (line_heard by x.body s) ∙ hear_more by 0 x.body (bodies_of lines) s.clients

-- ---- an event

all_number : (own : Bool) (bs : List Body) (c : Client) → (let e = heard_all own bs c in e.number) ≡ c.number
all_number own [] c = refl
all_number own (b ∷ bs) c = all_number own bs (hears b own c) ∙ hears_number b own c

-- of what kind the first line is
first_cases : (past : Past) (e : Event) (b : Body) (bs : List Body) → AreFit past e (b ∷ bs) →
    ((k : ℕ) × (b ≡ body.Refused k) × ((bs ≡ []) ⊎ ((ask_of e ≡ Quiesces) × AllByRecursion (λ (d : Body). is_ending d ≡ true) bs)))
    ⊎ ((is_refused (b ∷ bs) ≡ false) × FirstFits past e b × LaterFit past e (past.lines ++ block (past.count + 1) (b ∷ [])) bs)
first_cases past e (body.Refused k) bs fit = inl (k, refl, fit)
first_cases past e _ bs fit = inr (refl, fit.0, fit.1)

-- lines outside of events fit anywhere
endings_fit : (past : Past) (e : Event) (lines : List Line) (bs : List Body) → AllByRecursion (λ (d : Body). is_ending d ≡ true) bs →
    LaterFit past e lines bs
endings_fit past e lines [] all = tt
endings_fit past e lines (b ∷ bs) all = (one b all.0, endings_fit past e (lines ++ block (past.count + 1) (b ∷ [])) bs all.1)
  where
    one : (d : Body) → is_ending d ≡ true → LaterFits past e lines d
    one (body.Ok l x op answer) holds = absurd (true≢false (sym holds))
    one (body.Committed l) holds = absurd (true≢false (sym holds))
    one (body.Began l k u p) holds = absurd (true≢false (sym holds))
    one (body.Committing l) holds = absurd (true≢false (sym holds))
    one (body.Refused c) holds = absurd (true≢false (sym holds))
    one _ holds = tt

module _ (past : Past) (e : Event) (by : Option ℕ) (st : Stand past.lines) (named : IsNamed (ask_of e)) where
  abbrev asks_old : Asks
  asks_old = asks_by past.accepted

  abbrev asks_new : Asks
  asks_new = asks_by (past.accepted ++ asked_of past e ∷ [])

  -- where it is accepted
  accepts : (own : Bool) (k : ℕ) (c : Client) → Mid (view past.lines) asks_old (count past.lines) (ask_of e) own k c →
      Holds (view past.lines) asks_new (count past.lines) c
  accepts own k c m =
      subst (λ asks. Holds (view past.lines) asks (count past.lines) c) (asks_more past.accepted (asked_of past e)) (m.accepted e
      (asked_of past e) refl refl)

  -- a refusal stands alone of an event's lines, or lines outside of events stand behind
  refusal_stands : (k : ℕ) → Stand (past.lines ++ record { event = past.count + 1; body = body.Refused k } ∷ [])
  refusal_stands k =
      stand_next past.lines (record { event = past.count + 1; body = body.Refused k }) (sound_still (view past.lines) st.sound)
      (subst (AreCalled (acts past.lines)) (sym (append-nil (committings past.lines))) st.called)
      (ended_still (acts past.lines) (acts past.lines) (committings past.lines) [] (committed past.lines) (λ a there. there) st.ended)

  refusal_holds : (k : ℕ) (asks : Asks) (c : Client) → Holds (view past.lines) asks (count past.lines) c →
      Holds (view (past.lines ++ record { event = past.count + 1; body = body.Refused k } ∷ [])) asks
      (count (past.lines ++ record { event = past.count + 1; body = body.Refused k } ∷ [])) c
  refusal_holds k asks c h =
      holds_next past.lines (record { event = past.count + 1; body = body.Refused k }) asks c
      (unread (view past.lines) asks (count past.lines) (next_count (body.Refused k) (count past.lines)) c c
      (count_more (body.Refused k) (count past.lines)) h)

  -- the state behind the event
  abbrev Behind : List Body → Client → Type 0
  Behind bs c = Holds (view (let z = next past e bs in z.lines)) (asks_by (let z = next past e bs in z.accepted)) (count
      (let z = next past e bs in z.lines)) c

  one_heard : (own : Bool) (k : ℕ) (c : Client) (bs : List Body) → (ask_of e ≡ Quiesces → own ≡ false) → AreFit past e bs →
      Mid (view past.lines) asks_old (count past.lines) (ask_of e) own k c →
      Stand (let z = next past e bs in z.lines) × Behind bs (heard_all own bs c)
  one_heard own k c [] quiet fit m = (
    subst Stand (sym (append-nil past.lines)) st,
    subst (λ ls. Holds (view ls) asks_new (count ls) c) (sym (append-nil past.lines)) (accepts own k c m),
  )
  one_heard own k c (b ∷ bs) quiet fit m = cases (first_cases past e b bs fit)
    where
      x : Line
      x = record { event = past.count + 1; body = b }

      goes : (is_refused (b ∷ bs) ≡ false) → Both asks_new (past.lines ++ (x ∷ block (past.count + 1) bs)) (heard_all own (b ∷ bs) c) →
          Stand (let z = next past e (b ∷ bs) in z.lines) × Behind (b ∷ bs) (heard_all own (b ∷ bs) c)
      goes not both = (
        both.0,
        subst (λ r. Holds (view (past.lines ++ (x ∷ block (past.count + 1) bs))) (asks_by (cond r past.accepted
            (past.accepted ++ asked_of past e ∷ [])))
            (count (past.lines ++ (x ∷ block (past.count + 1) bs))) (heard_all own (b ∷ bs) c)) (sym not) both.1,
      )

      behind : LaterFit past e (past.lines ++ block (past.count + 1) (b ∷ [])) bs → Both asks_new (past.lines ++ x ∷ []) (hears b own c) →
          Both asks_new (past.lines ++ (x ∷ block (past.count + 1) bs)) (heard_all own (b ∷ bs) c)
      behind later both =
          subst (λ ls. Both asks_new ls (heard_all own bs (hears b own c))) (append_assoc past.lines (x ∷ []) (block (past.count + 1) bs))
          (hears_all past e own bs (past.lines ++ x ∷ []) (hears b own c) later both)

      -- it is refused
      refused : (j : ℕ) → (ds : List Body) → (own ≡ false) ⊎ (ds ≡ []) → AllByRecursion (λ (d : Body). is_ending d ≡ true) ds →
          Stand (let z = next past e (body.Refused j ∷ ds) in z.lines)
          × Behind (body.Refused j ∷ ds) (heard_all own (body.Refused j ∷ ds) c)
      refused j [] free all = (refusal_stands j, refusal_holds j asks_old (if own then refused_at c.phase c else c) m.refused)
      refused j (d ∷ ds) (inr never) all = absurd (cc never)
      refused j (d ∷ ds) (inl other) all =
          let y : Line = record { event = past.count + 1; body = body.Refused j } in
          subst (λ z. Both asks_new z (heard_all own (d ∷ ds) (if own then refused_at c.phase c else c)))
          (append_assoc past.lines (y ∷ []) (block (past.count + 1) (d ∷ ds)))
          (hears_all past e own (d ∷ ds) (past.lines ++ y ∷ []) (if own then refused_at c.phase c else c)
          (endings_fit past e (past.lines ++ y ∷ []) (d ∷ ds) all) (
            refusal_stands j,
            subst (λ o. Holds (view (past.lines ++ y ∷ [])) asks_new (count (past.lines ++ y ∷ [])) (if o then refused_at c.phase c else c))
                (sym other) (refusal_holds j asks_new c (accepts own k c m)),
          ))

      cases : ((j : ℕ) × (b ≡ body.Refused j) × ((bs ≡ []) ⊎ ((ask_of e ≡ Quiesces)
          × AllByRecursion (λ (d : Body). is_ending d ≡ true) bs)))
          ⊎ ((is_refused (b ∷ bs) ≡ false) × FirstFits past e b × LaterFit past e (past.lines ++ block (past.count + 1) (b ∷ [])) bs) →
          Stand (let z = next past e (b ∷ bs) in z.lines) × Behind (b ∷ bs) (heard_all own (b ∷ bs) c)
      cases (inr (not, first, later)) =
          goes not (behind later (hears_first past own c st e named m.role b first (accepts own k c m)))
      cases (inl (j, is, inl none)) =
          subst (λ d. Stand (let z = next past e (d ∷ bs) in z.lines) × Behind (d ∷ bs) (heard_all own (d ∷ bs) c)) (sym is)
          (refused j bs (inr none) (subst (AllByRecursion (λ (d : Body). is_ending d ≡ true)) (sym none) tt))
      cases (inl (j, is, inr (quiesce, all))) =
          subst (λ d. Stand (let z = next past e (d ∷ bs) in z.lines) × Behind (d ∷ bs) (heard_all own (d ∷ bs) c)) (sym is)
          (refused j bs (inl (quiet quiesce)) all)

  -- all of them hear it
  pub all_heard : (bs : List Body) → (ask_of e ≡ Quiesces → by ≡ None) → AreFit past e bs → (at : ℕ) (cs : List Client) →
      AllMid (view past.lines) asks_old (count past.lines) (ask_of e) by at cs →
      AllHold (view (let z = next past e bs in z.lines)) (asks_by (let z = next past e bs in z.accepted)) (count
      (let z = next past e bs in z.lines))
      (at + 1) (hear_lines by at bs cs)
  all_heard bs quiet fit at [] mids = tt
  all_heard bs quiet fit at (c ∷ cs) mids =
      let m = mids.0 in (
        all_number (is_by by at) bs c ∙ m.number,
        (one_heard (is_by by at) (at + 1) c bs (λ q. ap (λ o. is_by o at) (quiet q)) fit mids.0).1,
        all_heard bs quiet fit (at + 1) cs mids.1,
      )

-- the journal stands behind an event, of whatever is heard
pub stands_behind : (past : Past) (e : Event) (by : Option ℕ) (bs : List Body) → Stand past.lines → IsNamed (ask_of e) →
    (ask_of e ≡ Quiesces → by ≡ None) → AreFit past e bs → (c : Client) →
    Mid (view past.lines) (asks_by past.accepted) (count past.lines) (ask_of e) (is_by by 0) 1 c → Stand (let z = next past e bs in z.lines)
stands_behind past e by bs st named quiet fit c m =
    (one_heard past e by st named (is_by by 0) 1 c bs (λ q. ap (λ o. is_by o 0) (quiet q)) fit m).0
