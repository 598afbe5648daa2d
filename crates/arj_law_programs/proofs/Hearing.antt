-- What a program hears keeps what holds of it.
use Rattle.std.proofs.Common.{◌≡◌, ◌∙◌, ◌≤◌, ◌⊎◌, inl, inr, ℕ, ◌+◌, List, [], ◌∷◌, ◌++◌, length, map, refl, ap, sym, subst, arith, true}
use Rattle.std.proofs.Common.{false}
use Rattle.std.proofs.Common.{Bool, Option, Some, ◌&&◌, ◌||◌, ◌==◌, ◌-◌, true≢false, if◌then◌else◌}
use Rattle.std.specs.List.{AllByRecursion}
use Rattle.std.specs.Str.{bytes_eq}
use Rattle.arj_class.specs.declared.op.Op.{Op}
use Rattle.arj_journal.specs.declared.body.Body.{Body}
use Rattle.arj_text.specs.Label.{name}
use Rattle.arj_text.specs.declared.label.Label.{Label}
use Rattle.arj_model.specs.Actions.{Act, Placed, path}
use Rattle.arj_model.specs.Calls.{Said}
use Rattle.arj_model.specs.Follows.{IsCallOf}
use Rattle.arj_model.specs.Past.{Asked}
use Rattle.arj_model.specs.Refusals.{is_answer_to, last_asked}
use Rattle.arj_prog.specs.declared.statements.Statement.{Statement}
use Rattle.arj_progrun.proofs.Keeping.{waits_so}
use Rattle.arj_progrun.specs.Client.{Client, Level, aborted, again, answered, inner, inner_of, inside_at, is_phase, labelled}
use Rattle.arj_progrun.specs.Client.{loses, loses_at, loses_top, said_by, stands, taken, try_label, waits}
use Rattle.arj_progrun.specs.declared.phase.Phase.{Phase}
use Rattle.arj_progrun.specs.declared.phase.Phase.TheVariants as phase
use Rattle.arj_law_programs.proofs.Labels.{IsOf}
use Rattle.arj_law_programs.proofs.Acts.{same_label}
use Rattle.arj_law_programs.proofs.Keeping.{Mark, Open, inner_mark, open_own_call, stack_at}
use Rattle.arj_law_programs.proofs.Keeping.{told_at, top_with, blocks_with}
use Rattle.arj_law_programs.proofs.Tracking.{AnswersCall, Asks, AsksFor, Counted, Holds, HoldsAt, IsOpen, Tracks, call_asked}
use Rattle.arj_law_programs.proofs.Tracking.{called_elsewhere, inner_same, lifted, mark_of, mark_taken}
use Rattle.arj_law_programs.proofs.Tracking.{not_of_it, other_top, own_top, pending, said_same, tracks_on}
use Rattle.arj_law_programs.proofs.Turning.{open_popped}
use Rattle.arj_law_programs.proofs.Views.{Sound, View}
use Rattle.arj_law_programs.specs.Counts.{told_by}

-- ---- cases

pub either : (P : Client → Type 0) (b : Bool) (c d : Client) → (b ≡ true → P c) → (b ≡ false → P d) → P (if b then c else d)
either P true c d f g = f refl
either P false c d f g = g refl

second_true : (a b : Bool) → (a && b) ≡ true → b ≡ true
second_true true b e = e
second_true false b e = absurd (true≢false (sym e))

pub waits_label : (p : Phase) (l : List ℕ) (c : Client) → waits p l c ≡ true → (let m = inner c in m.label) ≡ l
waits_label p l c e = same_label (let m = inner c in m.label) l (second_true (is_phase p c.phase) _ e)

-- what holds where it stands so
pub holds_so : (v : View) (asks : Asks) (ans : Counted) (c : Client) (p : Phase) → c.phase ≡ p → Holds v asks ans c →
    HoldsAt p v asks ans c.number c.asked (mark_of c.top) (map mark_of c.blocks)
holds_so v asks ans c p is h = subst (λ q. HoldsAt q v asks ans c.number c.asked (mark_of c.top) (map mark_of c.blocks)) is h

-- the program stays, and the journal goes on
pub stays : (v w : View) (asks : Asks) (ans bns : Counted) (c : Client) →
    (Tracks v asks ans c.phase c.number c.asked (mark_of c.top) (map mark_of c.blocks) →
    Tracks w asks bns c.phase c.number c.asked (mark_of c.top) (map mark_of c.blocks)) → Holds v asks ans c → Holds w asks bns c
stays v w asks ans bns c f h = lifted c.phase v w asks asks ans bns c.number c.asked (mark_of c.top) (map mark_of c.blocks) f h

-- how many answers to an action there are behind a line
abbrev pub next_count : Body → Counted → Counted
next_count b ans l = ans l + (if is_answer_to l b then 1 else 0)

pub count_more : (b : Body) (ans : Counted) (l : List ℕ) → ans l ≤ next_count b ans l
count_more b ans l = omega arith

-- an answer to the innermost action ends its call
ends_call : (asks : Asks) (ans : Counted) (i : ℕ) (m : List ℕ) (l : List ℕ) → m ≡ l →
    ((k : List ℕ) → IsOf i k → length (asks k) ≤ ans k + pending phase.Calling m k) →
    (k : List ℕ) → IsOf i k → length (asks k) ≤ (ans k + (if bytes_eq l k then 1 else 0)) + 0
ends_call asks ans i m l same slack k of =
    let s : length (asks k) ≤ ans k + (if bytes_eq l k then 1 else 0) =
    subst (λ j. length (asks k) ≤ ans k + (if bytes_eq j k then 1 else 0)) same (slack k of) in
    omega (arith, s)

-- ---- a call that wasn't done, or is lost

-- the same with another phase, in which nothing waits
backs : (v : View) (asks : Asks) (ans bns : Counted) (i : ℕ) (o : Option Statement) (top : Mark) (bs : List Mark) →
    ((k : List ℕ) → IsOf i k → length (asks k) ≤ bns k + 0) → Tracks v asks ans phase.Calling i o top bs →
    Tracks v asks bns phase.Backing i o top bs
backs v asks ans bns i o top bs slack t =
    record { label = t.label; labels = t.labels; opens = t.opens; slack = slack; calls = tt; done = tt }

pub denied : (v : View) (asks : Asks) (ans : Counted) (c : Client) (l : Label) → Holds v asks ans c →
    Holds v asks (λ k. ans k + (if bytes_eq (name l) k then 1 else 0)) (if waits phase.Calling
    (name l) c then stands phase.Backing c else c)
denied v asks ans c l h =
    either (Holds v asks (λ k. ans k + (if bytes_eq (name l) k then 1 else 0))) (waits phase.Calling (name l) c) (stands phase.Backing c) c
    (λ e. let t = holds_so v asks ans c phase.Calling (waits_so phase.Calling (name l) c e) h in
    backs v asks ans (λ k. ans k + (if bytes_eq (name l) k then 1 else 0)) c.number c.asked (mark_of c.top) (map mark_of c.blocks)
    (ends_call asks ans c.number (let m = inner_mark (mark_of c.top) (map mark_of c.blocks) in m.label) (name l)
    (inner_same c.top c.blocks ∙ waits_label phase.Calling (name l) c e) t.slack) t)
    (λ e. stays v v asks ans (λ k. ans k + (if bytes_eq (name l) k then 1 else 0)) c
    (tracks_on v v asks ans (λ k. ans k + (if bytes_eq (name l) k then 1 else 0)) c.phase c.number c.asked (mark_of c.top)
    (map mark_of c.blocks)
    (λ of cs all op. op) (λ op holds. holds) (λ k. omega arith)) h)

-- ---- an abort

lost_top : (v : View) (asks : Asks) (ans : Counted) (c : Client) →
    IsOf c.number (let t = c.top in t.label) → ((l : List ℕ) → IsOf c.number l → length (asks l) ≤ ans l + 0) → c.blocks ≡ [] →
    Holds v asks ans (loses_top c)
lost_top v asks ans c of slack none =
    either (Holds v asks ans) ((let t = c.top in t.left) == 0) (stands phase.GaveUp c)
    (record c { top = again_top; begun = 0; phase = phase.Entering }) (λ e. tt)
    (λ e. subst (λ bs. Tracks v asks ans phase.Entering c.number c.asked (mark_of again_top) (map mark_of bs)) (sym none)
    (record { label = (of.0, (_, refl)); labels = tt; opens = refl; slack = slack; calls = tt; done = tt }))
  where
    again_top : Level
    again_top = labelled (try_label c.number (c.retry - ((let t = c.top in t.left) - 1))) (again c.top)

lost : (v : View) (asks : Asks) (ans : Counted) (c : Client) (bs : List Level) → c.blocks ≡ bs →
    IsOf c.number (let t = c.top in t.label) → AllByRecursion (λ (b : Mark). IsOf c.number b.label) (map mark_of bs) →
    IsOpen v (mark_of c.top) (map mark_of bs) → ((l : List ℕ) → IsOf c.number l → length (asks l) ≤ ans l + 0) →
    Holds v asks ans (loses_at bs c)
lost v asks ans c [] is of all open_now slack = lost_top v asks ans c of slack is
lost v asks ans c (b ∷ bs) is of all open_now slack =
    either (Holds v asks ans) (b.left == 0) (record c { blocks = bs; phase = phase.Backing }) (record c {
      blocks = again b ∷ bs;
      phase = phase.Entering;
    })
    (λ e. record { label = of; labels = all.1; opens = outer open_now; slack = slack; calls = tt; done = tt })
    (λ e. record { label = of; labels = all; opens = (refl, outer open_now); slack = slack; calls = tt; done = tt })
  where
    popped : (t : Act) (below : List Act) → Open v (mark_of c.top) t below (mark_of b ∷ map mark_of bs) →
        IsOpen v (mark_of c.top) (map mark_of bs)
    popped t [] op = absurd op.stack
    popped t (a ∷ below) op = (t, below, open_popped v (mark_of c.top) t a below (mark_of b) (map mark_of bs) op)

    outer : IsOpen v (mark_of c.top) (mark_of b ∷ map mark_of bs) → IsOpen v (mark_of c.top) (map mark_of bs)
    outer (t, below, op) = popped t below op

or_cases : (a b : Bool) → (a || b) ≡ true → (a ≡ true) ⊎ (b ≡ true)
or_cases true b e = inl refl
or_cases false b e = inr e

pub hears_aborted : (v : View) (asks : Asks) (ans : Counted) (c : Client) (l : List ℕ) → Holds v asks ans c → Holds v asks ans (aborted l c)
hears_aborted v asks ans c l h =
    either (Holds v asks ans) (is_phase phase.Failing c.phase && bytes_eq (let t = c.top in t.label) l) (stands phase.Failed c) _ (λ e. tt)
    (λ e. either (Holds v asks ans) (waits phase.Aborting l c || waits phase.Committing l c) (loses c) c
    (λ w. both w (or_cases (waits phase.Aborting l c) (waits phase.Committing l c) w)) (λ w. h))
  where
    both : (waits phase.Aborting l c || waits phase.Committing l c) ≡ true →
        (waits phase.Aborting l c ≡ true) ⊎ (waits phase.Committing l c ≡ true) → Holds v asks ans (loses c)
    both w (inl holds) =
        let t = holds_so v asks ans c phase.Aborting (waits_so phase.Aborting l c holds) h in
        lost v asks ans c c.blocks refl t.label t.labels t.opens t.slack
    both w (inr holds) =
        let t = holds_so v asks ans c phase.Committing (waits_so phase.Committing l c holds) h in
        lost v asks ans c c.blocks refl t.label t.labels t.opens t.slack

-- ---- an answer

-- the call of a line, at its place
abbrev pub call_at : ℕ → View → Label → ℕ → Op → List ℕ → Placed Said
call_at n v l x op answer = record { at = n; it = record { path = path v.acts (name l); x = x; op = op; answer = answer } }

module _ (n : ℕ) (v : View) (sound : Sound v) (asks : Asks) (ans : Counted) (c : Client) (l : Label) (x : ℕ) (op : Op) (answer : List ℕ)
    (fits : AnswersCall asks ans (name l) x op) where
  abbrev s : Placed Said
  s = call_at n v l x op answer

  abbrev w : View
  w = record v { said = v.said ++ call_at n v l x op answer ∷ [] }

  abbrev bns : Counted
  bns = λ k. ans k + (if bytes_eq (name l) k then 1 else 0)

  -- it is the call for which the program waits
  mine : (st : Statement) → told_by (said_by st answer) ≡ told_at s → (let m = inner c in m.label) ≡ name l →
      Tracks v asks ans phase.Calling c.number c.asked (mark_of c.top) (map mark_of c.blocks) →
      (bs : List Level) → c.blocks ≡ bs → Holds w asks bns (inside_at bs (taken st answer) (record c { phase = phase.Ready; blocks = bs }))
  mine st same label t bs is =
      at bs (subst (λ ls. AllByRecursion (λ (b : Mark). IsOf c.number b.label) (map mark_of ls)) is t.labels)
      (subst (λ ls. IsOpen v (mark_of c.top) (map mark_of ls)) is t.opens) (subst (λ ls.
      (let m = inner_of c.top ls in m.label) ≡ name l) is label)
    where
      slack : (k : List ℕ) → IsOf c.number k → length (asks k) ≤ bns k + 0
      slack = ends_call asks ans c.number (let m = inner_mark (mark_of c.top) (map mark_of c.blocks) in m.label) (name l)
          (inner_same c.top c.blocks ∙ label) t.slack

      opened : (ls : List Level) → (let m = inner_of c.top ls in m.label) ≡ name l → IsOpen v (mark_of c.top) (map mark_of ls) →
          IsOpen w (top_with (told_at s) (mark_of c.top) (map mark_of ls)) (blocks_with (told_at s) (map mark_of ls))
      opened ls here (t0, below, op0) = (
        t0,
        below,
        open_own_call v s t0 (mark_of c.top) below (map mark_of ls)
            (let own = own_top v sound c.number t0 (mark_of c.top) below (map mark_of ls) t.label op0.stack in let o = own.0 in o.plain)
            (ap (path v.acts) (sym here ∙ sym (inner_same c.top ls))
            ∙ stack_at v.acts t0 (mark_of c.top) below (map mark_of ls) op0.stack) op0,
      )

      at : (ls : List Level) → AllByRecursion (λ (b : Mark). IsOf c.number b.label) (map mark_of ls) →
          IsOpen v (mark_of c.top) (map mark_of ls) →
          (let m = inner_of c.top ls in m.label) ≡ name l → Holds w asks bns (inside_at ls (taken st answer) (record c {
            phase = phase.Ready;
            blocks = ls;
          }))
      at [] all op0 here = record {
        label = t.label;
        labels = tt;
        opens = subst (λ m. IsOpen w m []) (mark_taken st answer c.top (told_at s) same) (opened [] here op0);
        slack = slack;
        calls = tt;
        done = tt;
      }
      at (b ∷ bs) all op0 here = record {
        label = t.label;
        labels = all;
        opens = subst (λ m. IsOpen w (mark_of c.top) (m ∷ map mark_of bs)) (mark_taken st answer b (told_at s) same) (opened
            (b ∷ bs) here op0);
        slack = slack;
        calls = tt;
        done = tt;
      }

  answered_so : (let m = inner c in m.label) ≡ name l →
      Tracks v asks ans phase.Calling c.number c.asked (mark_of c.top) (map mark_of c.blocks) →
      Holds w asks bns (answered answer c.asked c)
  answered_so label t =
      let k = t.calls in
      subst (λ o. Holds w asks bns (answered answer o c)) (sym k.2)
      (mine k.0 (said_same k.0 answer ∙ told k.0 k.1 k.3 k.4) label t c.blocks refl)
    where
      told : (st : Statement) (a : Asked) →
          last_asked (asks (let m = inner_mark (mark_of c.top) (map mark_of c.blocks) in m.label)) ≡ Some a →
          AsksFor (said_by st []) (let m = inner_mark (mark_of c.top) (map mark_of c.blocks) in m.label) a.event →
          record { x = (let r = said_by st [] in r.x); op = (let r = said_by st [] in r.op); answer = answer } ≡ told_at s
      told st a is asked =
          let same : Some a ≡ Some (let f = fits.1 in f.0) =
          sym is ∙ ap (λ m. last_asked (asks m)) (inner_same c.top c.blocks ∙ label) ∙ (let f = fits.1 in f.1) in
          let one : a ≡ (let f = fits.1 in f.0) = cc in
          let both = call_asked a.event (let m = inner_mark (mark_of c.top) (map mark_of c.blocks) in m.label) x
          (let r = said_by st [] in r.x) op (let r = said_by st [] in r.op) asked
          (subst (λ (z : Asked). IsCallOf x op (Some z.event)) (sym one) (let f = fits.1 in f.2)) in
          λ i. record { x = both.0 i; op = both.1 i; answer = answer }

  not_mine : waits phase.Calling (name l) c ≡ false → Holds v asks ans c → Holds w asks bns c
  not_mine fails h =
      stays v w asks ans bns c
      (λ t. called_elsewhere v s asks ans bns c.phase c.number c.asked (mark_of c.top) (map mark_of c.blocks)
      (λ t0 below cs of stack. other_top v sound c.number (name l)
      (λ mine_now. not_of_it v asks ans c.phase c.number c.asked (mark_of c.top) (map mark_of c.blocks) (name l)
      (ap (λ m. is_phase phase.Calling c.phase && bytes_eq m (name l)) (inner_same c.top c.blocks) ∙ fails) fits.0 t mine_now)
      t0 (mark_of c.top) below cs of stack) (λ k. omega arith) t) h

  pub hears_answer : Holds v asks ans c →
      Holds w asks bns (if waits phase.Calling (name l) c then answered answer c.asked c else c)
  hears_answer h =
      either (Holds w asks bns) (waits phase.Calling (name l) c) (answered answer c.asked c) c
      (λ e. answered_so (waits_label phase.Calling (name l) c e)
      (holds_so v asks ans c phase.Calling (waits_so phase.Calling (name l) c e) h)) (λ e. not_mine e h)
