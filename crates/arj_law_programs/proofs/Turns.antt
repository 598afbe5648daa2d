-- The turns of the schedule, one after another.
use Rattle.std.proofs.Common.{◌≡◌, ◌∙◌, ◌<◌, ◌≤◌, inl, inr, ℕ, zero, suc, ◌+◌, List, [], ◌∷◌, ◌++◌, length, refl, ap, sym, subst, arith}
use Rattle.std.proofs.Common.{true, false}
use Rattle.std.proofs.Common.{Bool, Option, Some, None, ◌||◌, ◌==◌, ◌%◌, if◌then◌else◌, slice_get, slice_set}
use Rattle.std.proofs.lemmas.Bool.Decides.{nat_tests}
use Rattle.std.specs.Prelude.{◌^◌}
use Rattle.std.specs.Fmt.{decimal}
use Rattle.arj_gen.specs.Bank.{drawn, next_state}
use Rattle.arj_journal.specs.declared.body.Line.{Line}
use Rattle.arj_journal.specs.declared.event.Event.{Event}
use Rattle.arj_journal.specs.declared.event.Event.TheVariants as event
use Rattle.arj_model.specs.Past.{Past, at_start, next}
use Rattle.arj_model.specs.Refusals.{asks_by}
use Rattle.arj_prog.specs.declared.plan.Plan.{Plan}
use Rattle.arj_prog.specs.declared.plan.Program.{Program}
use Rattle.arj_progrun.proofs.Stacks.{some_same}
use Rattle.arj_progrun.specs.Client.{Aborts, Ask, Asking, Begins, BeginsIn, Calls, Client, Commits, GivesUp, LosesLast, Other, Quiesces}
use Rattle.arj_progrun.specs.Client.{Settles, Ticks}
use Rattle.arj_progrun.specs.Client.{turned}
use Rattle.arj_progrun.specs.Events.{ask_of}
use Rattle.arj_progrun.specs.Schedule.{Given, GivesAsk, Schedule, Standing, Turning, Turns, asks_by_it, clients_from}
use Rattle.arj_progrun.specs.Schedule.{is_by, lines_heard, own, turn_at, turn_by, turn_drawn}
use Rattle.arj_start.specs.Start.{fresh}
use Rattle.arj_law_programs.proofs.Asking.{AskedSo, Goes, NotOther, other_asked, turned_so}
use Rattle.arj_law_programs.proofs.Driving.{AllHold, AllMid, Mid, all_heard, hear_lines, lines_all, stands_behind}
use Rattle.arj_law_programs.proofs.Keeping.{other_number}
use Rattle.arj_law_programs.proofs.Labels.{one_of}
use Rattle.arj_law_programs.proofs.Later.{IsElsewhere, IsNamed, NamedBy, Stand, count}
use Rattle.arj_law_programs.proofs.Numbers.{turned_number}
use Rattle.arj_law_programs.proofs.Tracking.{Asks, Counted, Holds}
use Rattle.arj_law_programs.proofs.Views.{View, view}
use Rattle.arj_law_programs.proofs.Fits.{AreFit, FitAlong, bodies_of}

-- ---- what a turn leaves before its event comes

abbrev pub TurnSo : View → Asks → Counted → Option Ask → Turning → Type 0
TurnSo v asks ans None t = AllHold v asks ans 1 (let n = t.now in n.clients)
TurnSo v asks ans (Some ask) t =
    ((j : ℕ) × NamedBy j ask) × (ask ≡ Quiesces → t.by ≡ None) × AllMid v asks ans ask t.by 0 (let n = t.now in n.clients)

named_other : (j : ℕ) (ask : Ask) → NamedBy j ask → NotOther ask
named_other j (Begins m n) named = tt
named_other j (BeginsIn m q) named = tt
named_other j (Calls m x op) named = tt
named_other j (Commits m) named = tt
named_other j Other named = absurd named
named_other j _ named = tt

elsewhere_of : (j i : ℕ) (ask : Ask) → (i ≡ j → ⊥) → NamedBy j ask → IsElsewhere i ask
elsewhere_of j i (Begins m n) apart named = λ of. apart (one_of i j m of named)
elsewhere_of j i (BeginsIn m q) apart named = λ of. apart (one_of i j m of named.0)
elsewhere_of j i (Calls m x op) apart named = λ of. apart (one_of i j m of named)
elsewhere_of j i (Commits m) apart named = λ of. apart (one_of i j m of named)
elsewhere_of j i Other apart named = absurd named
elsewhere_of j i _ apart named = tt

module _ (v : View) (asks : Asks) (ans : Counted) where
  -- a program that doesn't ask
  other_mid : (ask : Ask) (k : ℕ) (c : Client) → NotOther ask → IsElsewhere c.number ask → c.number ≡ k → Holds v asks ans c →
      Mid v asks ans ask false k c
  other_mid ask k c other not number h = record {
    number = number;
    accepted = λ e x is same. other_asked v asks ans c e x (subst NotOther (sym is) other) (subst (IsElsewhere c.number) (sym is) not) h;
    refused = h;
    role = inr not;
  }

  -- nobody asks
  none_ask : (ask : Ask) (k : ℕ) (cs : List Client) → NotOther ask → ((i : ℕ) → IsElsewhere i ask) → AllHold v asks ans (k + 1) cs →
      AllMid v asks ans ask None k cs
  none_ask ask k [] other not all = tt
  none_ask ask k (c ∷ cs) other not (number, h, rest) =
      (other_mid ask (k + 1) c other (not c.number) number h, none_ask ask (k + 1) cs other not rest)

  -- the program at this place asks
  not_at : (at k : ℕ) → (at ≡ k → ⊥) → is_by (Some at) k ≡ false
  not_at at k apart = other_number at k apart

  others_ask : (ask : Ask) (at k : ℕ) (cs : List Client) → at < k → NamedBy (at + 1) ask → AllHold v asks ans (k + 1) cs →
      AllMid v asks ans ask (Some at) k cs
  others_ask ask at k [] low named all = tt
  others_ask ask at k (c ∷ cs) low named (number, h, rest) = (
    subst (λ b. Mid v asks ans ask b (k + 1) c) (sym (not_at at k (λ same. omega (arith, low, same))))
        (other_mid ask (k + 1) c (named_other (at + 1) ask named)
        (elsewhere_of (at + 1) c.number ask (λ same. omega (arith, low, same, number)) named) number h),
    others_ask ask at (k + 1) cs (omega (arith, low)) named rest,
  )

  number_at : (n k : ℕ) (cs : List Client) (c : Client) → AllHold v asks ans (k + 1) cs → slice_get cs n ≡ Some c → c.number ≡ k + n + 1
  number_at n k [] c all is = let never : None ≡ Some c = is in absurd (cc never)
  number_at zero k (b ∷ cs) c all is =
      sym (ap (λ (x : Client). x.number) (some_same b c is)) ∙ all.0 ∙ (let e : k + 1 ≡ k + 0 + 1 = omega arith in e)
  number_at (suc n) k (b ∷ cs) c all is = number_at n (k + 1) cs c all.2 is ∙ (let e : k + 1 + n + 1 ≡ k + suc n + 1 = omega arith in e)

  one_asks : (ask : Ask) (n k : ℕ) (cs : List Client) (c d : Client) → slice_get cs n ≡ Some c → d.number ≡ c.number →
      AskedSo v asks ans ask d → AllHold v asks ans (k + 1) cs → AllMid v asks ans ask (Some (k + n)) k (slice_set cs n d)
  one_asks ask n k [] c d is same a all = let never : None ≡ Some c = is in absurd (cc never)
  one_asks ask zero k (b ∷ cs) c d is same a all =
      let at : d.number ≡ k + 1 = same ∙ sym (ap (λ (x : Client). x.number) (some_same b c is)) ∙ all.0 in (
        subst (λ o. Mid v asks ans ask o (k + 1) d) (sym (let e : (k + 0 == k) ≡ true = grind (arith, nat_tests) in e))
            (record { number = at; accepted = a.accepted; refused = a.refused; role = inl a.has }),
        subst (λ j. AllMid v asks ans ask (Some j) (k + 1) cs) (let e : k ≡ k + 0 = omega arith in e)
            (others_ask ask k (k + 1) cs (omega arith) (subst (λ j. NamedBy j ask) at a.named) all.2),
      )
  one_asks ask (suc n) k (b ∷ cs) c d is same a all =
      let it : NamedBy (k + suc n + 1) ask =
      subst (λ q. NamedBy q ask) (same ∙ number_at (suc n) k (b ∷ cs) c all is) a.named in
      let number = all.0 in (
        subst (λ o. Mid v asks ans ask o (k + 1) b) (sym (not_at (k + suc n) k (λ e. omega (arith, e))))
            (other_mid ask (k + 1) b (named_other (k + suc n + 1) ask it) (elsewhere_of (k + suc n + 1) b.number ask
            (λ e. omega (arith, e, number)) it) number all.1),
        subst (λ j. AllMid v asks ans ask (Some j) (k + 1) (slice_set cs n d)) (let e : k + 1 + n ≡ k + suc n = omega arith in e)
            (one_asks ask n (k + 1) cs c d is same a all.2),
      )

  -- a program is changed, and asks nothing of its own
  set_hold : (n k : ℕ) (cs : List Client) (c d : Client) → slice_get cs n ≡ Some c → d.number ≡ c.number → Holds v asks ans d →
      AllHold v asks ans k cs → AllHold v asks ans k (slice_set cs n d)
  set_hold n k [] c d is same h all = tt
  set_hold zero k (b ∷ cs) c d is same h (number, was, rest) =
      (same ∙ sym (ap (λ (x : Client). x.number) (some_same b c is)) ∙ number, h, rest)
  set_hold (suc n) k (b ∷ cs) c d is same h (number, was, rest) = (number, was, set_hold n (k + 1) cs c d is same h rest)

  get_hold : (n k : ℕ) (cs : List Client) (c : Client) → slice_get cs n ≡ Some c → AllHold v asks ans k cs → Holds v asks ans c
  get_hold n k [] c is all = let never : None ≡ Some c = is in absurd (cc never)
  get_hold zero k (b ∷ cs) c is (number, h, rest) = subst (Holds v asks ans) (some_same b c is) h
  get_hold (suc n) k (b ∷ cs) c is (number, h, rest) = get_hold n (k + 1) cs c is rest

  -- the turn of a program
  turn_with_so : (n : ℕ) (s : Standing) (c : Client) → slice_get s.clients n ≡ Some c → AllHold v asks ans 1 s.clients →
      (let t = turn_by n (Some c) s in TurnSo v asks ans t.ask t)
  turn_with_so n s c is all = by (turned c) (turned_number c) (turned_so v asks ans c (get_hold n 1 s.clients c is all))
    where
      asks_one : (ask : Ask) (d : Client) → d.number ≡ c.number → AskedSo v asks ans ask d →
          TurnSo v asks ans (Some ask) (record { ask = Some ask; by = Some n; now = record s { clients = slice_set s.clients n d } })
      asks_one ask d same a = (
        (d.number, a.named),
        λ q. absurd (a.other q),
        subst (λ j. AllMid v asks ans ask (Some j) 0 (slice_set s.clients n d)) (let e : 0 + n ≡ n = omega arith in e)
            (one_asks ask n 0 s.clients c d is same a all),
      )

      by : (a : Asking) → (let d = a.client in d.number) ≡ c.number → Goes v asks ans a.ask a.client →
          TurnSo v asks ans a.ask (record { ask = a.ask; by = asks_by_it n a.ask; now = record s { clients = slice_set s.clients n a.client } })
      by a same goes = at a.ask a.client same goes
        where
          at : (o : Option Ask) (d : Client) → d.number ≡ c.number → Goes v asks ans o d →
              TurnSo v asks ans o (record { ask = o; by = asks_by_it n o; now = record s { clients = slice_set s.clients n d } })
          at None d e g = set_hold n 1 s.clients c d is e g all
          at (Some (GivesUp l)) d e g =
              ((0, tt), (λ q. refl), none_ask (GivesUp l) 0 (slice_set s.clients n d) tt (λ i. tt) (set_hold n 1 s.clients c d is e g all))
          at (Some (Begins m k)) d e g = asks_one (Begins m k) d e g
          at (Some (BeginsIn m q)) d e g = asks_one (BeginsIn m q) d e g
          at (Some (Calls m x op)) d e g = asks_one (Calls m x op) d e g
          at (Some (Commits m)) d e g = asks_one (Commits m) d e g
          at (Some (Aborts m)) d e g = asks_one (Aborts m) d e g
          at (Some (Ticks k)) d e g = asks_one (Ticks k) d e g
          at (Some Settles) d e g = asks_one Settles d e g
          at (Some LosesLast) d e g = asks_one LosesLast d e g
          at (Some Quiesces) d e g = absurd (let a : AskedSo v asks ans Quiesces d = g in a.other refl)
          at (Some Other) d e g = absurd (let a : AskedSo v asks ans Other d = g in a.named)

  turn_by_so : (n : ℕ) (o : Option Client) (s : Standing) → slice_get s.clients n ≡ o → AllHold v asks ans 1 s.clients →
      (let t = turn_by n o s in TurnSo v asks ans t.ask t)
  turn_by_so n None s is all = all
  turn_by_so n (Some c) s is all = turn_with_so n s c is all

  own_so : (ask : Ask) (s : Standing) → NamedBy 0 ask → ((i : ℕ) → IsElsewhere i ask) → AllHold v asks ans 1 s.clients →
      TurnSo v asks ans (Some ask) (own ask s)
  own_so ask s named not all = ((0, named), (λ q. refl), none_ask ask 0 s.clients (named_other 0 ask named) not all)

  chosen : (b : Bool) (x y : Turning) → TurnSo v asks ans x.ask x → TurnSo v asks ans y.ask y →
      (let t = (if b then x else y) in TurnSo v asks ans t.ask t)
  chosen true x y p q = p
  chosen false x y p q = q

  lose_or_settle : (b : Bool) (s : Standing) → AllHold v asks ans 1 s.clients →
      TurnSo v asks ans (Some (if b then LosesLast else Settles)) (own (if b then LosesLast else Settles) s)
  lose_or_settle true s all = own_so LosesLast s tt (λ i. tt) all
  lose_or_settle false s all = own_so Settles s tt (λ i. tt) all

  pub turn_so : (nodes turn draw : ℕ) (s : Standing) → AllHold v asks ans 1 s.clients →
      (let t = turn_drawn nodes turn draw s in TurnSo v asks ans t.ask t)
  turn_so nodes turn draw s all =
      let at : ℕ = draw % length s.clients in
      let last : Turning = turn_by at (slice_get s.clients at) s in
      let third : Turning = if turn % 16 == 15 then own (if draw % 4 == 0 then LosesLast else Settles) s else last in
      let second : Turning = if turn % 16 == 7 then own (Ticks (1 + draw % nodes)) s else third in
      chosen ((turn % 16 == 3) || (turn % 16 == 11)) (own Settles s) second (own_so Settles s tt (λ i. tt) all)
      (chosen (turn % 16 == 7) (own (Ticks (1 + draw % nodes)) s) third (own_so (Ticks (1 + draw % nodes)) s tt (λ i. tt) all)
      (chosen (turn % 16 == 15) (own (if draw % 4 == 0 then LosesLast else Settles) s) last (lose_or_settle (draw % 4 == 0) s all)
      (turn_by_so at (slice_get s.clients at) s refl all)))

-- ---- the trace

-- the front of a trace, and its last event
fit_split : (past : Past) (front : List Given) (g : Given) (end : Past) → FitAlong past (front ++ g ∷ []) end →
    (mid : Past) × FitAlong past front mid × AreFit mid g.event (bodies_of g.lines) × (next mid g.event (bodies_of g.lines) ≡ end)
fit_split past [] g end fit = (past, refl, fit.1, fit.2)
fit_split past (h ∷ front) g end fit =
    let r = fit_split (next past h.event (bodies_of h.lines)) front g end fit.2 in
    (r.0, (fit.0, fit.1, r.1), r.2, r.3)

-- What holds behind events.
pub record Reached (p : Past) (s : Standing) : Type 0 where
  pub stand : Stand p.lines
  pub all : AllHold (view p.lines) (asks_by p.accepted) (count p.lines) 1 s.clients
  pub some : (c : Client) × (rest : List Client) × (s.clients ≡ c ∷ rest)

-- an event was given and heard
heard_so : (p : Past) (t : Turning) (e : Event) (lines : List Line) → Stand p.lines → (ask : Ask) → ask_of e ≡ ask →
    TurnSo (view p.lines) (asks_by p.accepted) (count p.lines) (Some ask) t →
    ((c : Client) × (rest : List Client) × ((let n = t.now in n.clients) ≡ c ∷ rest)) → AreFit p e (bodies_of lines) →
    Reached (next p e (bodies_of lines)) (lines_heard t.by lines t.now)
heard_so p t e lines st ask is so (c, rest, cut) fit =
    let mids : AllMid (view p.lines) (asks_by p.accepted) (count p.lines) (ask_of e) t.by 0 (let n = t.now in n.clients) =
    subst (λ a. AllMid (view p.lines) (asks_by p.accepted) (count p.lines) a t.by 0 (let n = t.now in n.clients)) (sym is) so.2 in
    let named : IsNamed (ask_of e) = subst IsNamed (sym is) so.0 in
    let quiet : ask_of e ≡ Quiesces → t.by ≡ None = λ q. so.1 (sym is ∙ q) in
    let first : AllMid (view p.lines) (asks_by p.accepted) (count p.lines) (ask_of e) t.by 0 (c ∷ rest) =
    subst (AllMid (view p.lines) (asks_by p.accepted) (count p.lines) (ask_of e) t.by 0) cut mids in
    let heard = lines_all t.by lines t.now in
    record {
      stand = stands_behind p e t.by (bodies_of lines) st named quiet fit c first.0;
      all = subst (AllHold (view (let z = next p e (bodies_of lines) in z.lines)) (asks_by (let z = next p e
          (bodies_of lines) in z.accepted))
          (count (let z = next p e (bodies_of lines) in z.lines)) 1) (sym heard)
          (all_heard p e t.by st named (bodies_of lines) quiet fit 0 (let n = t.now in n.clients) mids);
      some = (_, _, heard ∙ ap (hear_lines t.by 0 (bodies_of lines)) cut);
    }

-- a turn leaves some programs
turn_some : (nodes turn draw : ℕ) (s : Standing) → ((c : Client) × (rest : List Client) × (s.clients ≡ c ∷ rest)) →
    (let t = turn_drawn nodes turn draw s in (c : Client) × (rest : List Client) × ((let n = t.now in n.clients) ≡ c ∷ rest))
turn_some nodes turn draw s some =
    let at : ℕ = draw % length s.clients in
    let last : Turning = turn_by at (slice_get s.clients at) s in
    let third : Turning = if turn % 16 == 15 then own (if draw % 4 == 0 then LosesLast else Settles) s else last in
    let second : Turning = if turn % 16 == 7 then own (Ticks (1 + draw % nodes)) s else third in
    either ((turn % 16 == 3) || (turn % 16 == 11)) (own Settles s) second some
    (either (turn % 16 == 7) (own (Ticks (1 + draw % nodes)) s) third some
    (either (turn % 16 == 15) (own (if draw % 4 == 0 then LosesLast else Settles) s) last some (by_one at (slice_get s.clients at))))
  where
    Some_of : Turning → Type 0
    Some_of t = (c : Client) × (rest : List Client) × ((let n = t.now in n.clients) ≡ c ∷ rest)

    either : (b : Bool) (x y : Turning) → Some_of x → Some_of y → Some_of (if b then x else y)
    either true x y p q = p
    either false x y p q = q

    by_one : (n : ℕ) (o : Option Client) → Some_of (turn_by n o s)
    by_one n None = some
    by_one n (Some c) = set n s.clients (let a = turned c in a.client) some.2
      where
        set : (m : ℕ) (cs : List Client) (d : Client) → cs ≡ some.0 ∷ some.1 →
            (b : Client) × (rest : List Client) × (slice_set cs m d ≡ b ∷ rest)
        set m [] d e = absurd (cc e)
        set zero (b ∷ cs) d e = (d, cs, refl)
        set (suc m) (b ∷ cs) d e = (b, slice_set cs m d, refl)

first_hold : (n : ℕ) (ps : List Program) → n + length ps ≤ 2 ^ 64 → AllHold (view []) (asks_by []) (count []) n (clients_from n ps)
first_hold n [] few = tt
first_hold n (p ∷ ps) few = (
  refl,
  record {
    label = ((let low : n < 2 ^ 64 = omega (arith, few) in low), (decimal 0, refl));
    labels = tt;
    opens = refl;
    slack = λ l of. omega arith;
    calls = tt;
    done = tt;
  },
  first_hold (n + 1) ps (omega (arith, few)),
)

first_stand : Stand []
first_stand = record { sound = record { numbered = tt; good = tt; said = tt; ends = tt }; called = tt; ended = tt }

module _ (plan : Plan) (few : 1 + length plan.programs ≤ 2 ^ 64) (some : (p : Program) × (rest : List Program)
    × (plan.programs ≡ p ∷ rest)) where
  pub turns_reach : (turns : ℕ) (trace : List Given) (now : Standing) → Turns plan turns trace now → (end : Past) →
      FitAlong (at_start fresh) trace end → Reached end now
  turns_reach zero trace now (none, is) end fit =
      let at : at_start fresh ≡ end = subst (λ gs. FitAlong (at_start fresh) gs end) none fit in
      subst (λ p. Reached p now) at (subst (Reached (at_start fresh)) (sym is) (record {
        stand = first_stand;
        all = first_hold 1 plan.programs few;
        some = (_, _, ap (clients_from 1) some.2);
      }))
  turns_reach (suc n) trace now (before, front, took, going, gives) end fit =
      by_ask (let t = turn_at (let h = plan.header in h.nodes) n before in t.ask) refl
      (λ p front_fit. turns_reach n front before took p front_fit) gives
    where
      here : Standing
      here = record before { state = next_state before.state }

      by_ask : (o : Option Ask) → (let t = turn_at (let h = plan.header in h.nodes) n before in t.ask) ≡ o →
          ((p : Past) → FitAlong (at_start fresh) front p → Reached p before) →
          GivesAsk o (turn_at (let h = plan.header in h.nodes) n before) front trace now → Reached end now
      by_ask None e ih (same, is) =
          let r = ih end (subst (λ gs. FitAlong (at_start fresh) gs end) same fit) in
          let so = turn_so (view end.lines) (asks_by end.accepted) (count end.lines) (let h = plan.header in h.nodes) n
          (drawn before.state) here r.all in
          subst (Reached end) (sym is) (record {
            stand = r.stand;
            all = subst (λ o. TurnSo (view end.lines) (asks_by end.accepted) (count end.lines) o (turn_at
                (let h = plan.header in h.nodes) n before)) e so;
            some = turn_some (let h = plan.header in h.nodes) n (drawn before.state) here r.some;
          })
      by_ask (Some ask) e ih (g, asked, same, is) =
          let cut = fit_split (at_start fresh) front g end (subst (λ gs. FitAlong (at_start fresh) gs end) same fit) in
          let p = cut.0 in
          let r = ih p cut.1 in
          let so = turn_so (view p.lines) (asks_by p.accepted) (count p.lines) (let h = plan.header in h.nodes) n
          (drawn before.state) here r.all in
          subst (Reached end) (sym is) (subst (λ q. Reached q (lines_heard (let t = turn_at
          (let h = plan.header in h.nodes) n before in t.by) g.lines (let t = turn_at
          (let h = plan.header in h.nodes) n before in t.now))) cut.3
          (heard_so p (turn_at (let h = plan.header in h.nodes) n before) g.event g.lines r.stand ask asked
          (subst (λ o. TurnSo (view p.lines) (asks_by p.accepted) (count p.lines) o (turn_at
          (let h = plan.header in h.nodes) n before)) e so)
          (turn_some (let h = plan.header in h.nodes) n (drawn before.state) here r.some) cut.2))

  -- and behind the quiesce
  pub schedule_reaches : (trace : List Given) (now : Standing) → Schedule plan trace now → (end : Past) →
      FitAlong (at_start fresh) trace end →
      Reached end now
  schedule_reaches trace now s end fit =
      let g : Given = record { event = event.Quiesce; lines = s.lines } in
      let cut = fit_split (at_start fresh) s.front g end (subst (λ gs. FitAlong (at_start fresh) gs end) s.whole fit) in
      let p = cut.0 in
      let r = turns_reach s.turns s.front s.before s.took p cut.1 in
      subst (Reached end) (sym s.heard) (subst (λ q. Reached q (lines_heard None s.lines s.before)) cut.3
      (heard_so p (own Quiesces s.before) event.Quiesce s.lines r.stand Quiesces refl
      (own_so (view p.lines) (asks_by p.accepted) (count p.lines) Quiesces s.before tt (λ i. tt) r.all) r.some cut.2))
