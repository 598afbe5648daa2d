-- What a program asks in its turn keeps what holds of it.
use Rattle.std.proofs.Common.{◌≡◌, ◌∙◌, ◌≤◌, ℕ, ◌+◌, List, [], ◌∷◌, ◌++◌, length, map, refl, ap, sym, subst, arith, true, false}
use Rattle.std.proofs.Common.{Bool, Option, Some, None, cond, ◌==◌, append-nil, if◌then◌else◌}
use Rattle.std.specs.Prelude.{⊤, codes}
use Rattle.std.specs.Fmt.{decimal}
use Rattle.std.specs.List.{AllByRecursion}
use Rattle.std.specs.Str.{bytes_eq}
use Rattle.std.proofs.lemmas.List.{length-append}
use Rattle.std.proofs.lemmas.List.Elements.{filter-append}
use Rattle.arj_class.specs.declared.op.Op.{Op}
use Rattle.arj_journal.specs.declared.event.Event.{Event}
use Rattle.arj_journal.specs.declared.event.Event.TheVariants as event
use Rattle.arj_journal.specs.declared.event.FrameNo.{FrameNo}
use Rattle.arj_journal.specs.declared.event.FrameNo.TheVariants as frame_no
use Rattle.arj_text.specs.Label.{name}
use Rattle.arj_model.specs.Past.{Asked}
use Rattle.arj_model.specs.Refusals.{is_ask_by, last_asked}
use Rattle.arj_model.specs.Refusals as refusals
use Rattle.arj_prog.specs.Listing.{Listing}
use Rattle.arj_prog.specs.declared.statements.Statement.{Statement}
use Rattle.arj_prog.specs.declared.statements.Statement.TheVariants as statement
use Rattle.arj_progrun.specs.Client.{Ask, Begins, BeginsIn, Calls, Client, GivesUp, Level, Other, Quiesces, asking, asks_by, asks_for}
use Rattle.arj_progrun.specs.Client.{asks_next, attempt, begins, cut, enters, inner, inner_of, inside, inside_at, is_over, is_waiting}
use Rattle.arj_progrun.specs.Client.{leaves, level}
use Rattle.arj_progrun.specs.Client.{next_label, refused_at, said_by, stands, turned, unbegun, waits_on}
use Rattle.arj_progrun.specs.Events.{ask_of}
use Rattle.arj_progrun.specs.declared.client.TheConstants.{PATIENCE}
use Rattle.arj_progrun.specs.declared.phase.Phase.{Phase}
use Rattle.arj_progrun.specs.declared.phase.Phase.TheVariants as phase
use Rattle.arj_law_programs.proofs.Acts.{label_itself, same_label}
use Rattle.arj_law_programs.specs.Counts.{told_by}
use Rattle.arj_law_programs.proofs.Keeping.{Mark, inner_mark}
use Rattle.arj_law_programs.proofs.Labels.{IsOf}
use Rattle.arj_law_programs.proofs.Later.{HasAsked, IsElsewhere, NamedBy}
use Rattle.arj_law_programs.proofs.Tracking.{Asks, CallsSo, Counted, Holds, IsOpen, Opens, Tracks, inner_label, inner_same, lifted, mark_of}
use Rattle.arj_law_programs.proofs.Tracking.{pending}
use Rattle.arj_law_programs.proofs.Hearing.{holds_so}
use Rattle.arj_law_programs.proofs.Views.{View}

-- ---- one event more was asked

abbrev pub asks_with : Event → Asked → Asks → Asks
asks_with e x asks l = asks l ++ (if is_ask_by l e then x ∷ [] else [])

pub asks_more : (accepted : List Asked) (x : Asked) →
    asks_with x.event x (refusals.asks_by accepted) ≡ refusals.asks_by (accepted ++ x ∷ [])
asks_more accepted x i l = sym (filter-append (λ a. is_ask_by l a.event) accepted (x ∷ [])) i

-- it is no call
abbrev pub IsNoCall : Ask → Type 0
IsNoCall (Calls m x op) = ⊥
IsNoCall Other = ⊥
IsNoCall ask = ⊤

pub no_ask : (e : Event) (l : List ℕ) → IsNoCall (ask_of e) → is_ask_by l e ≡ false
no_ask (event.Call m x op) l never = absurd never
no_ask (event.Include m x n) l never = absurd never
no_ask _ l not = refl

pub call_by : (e : Event) (k : List ℕ) (x : ℕ) (op : Op) (l : List ℕ) → ask_of e ≡ Calls k x op → is_ask_by l e ≡ bytes_eq k l
call_by (event.Call m y o) k x op l is = let same : name m ≡ k = cc in ap (λ n. bytes_eq n l) same
call_by (event.Begin m n) k x op l is = absurd (cc is)
call_by (event.Serial m n) k x op l is = absurd (cc is)
call_by (event.BeginIn m p) k x op l is = absurd (cc is)
call_by (event.Top m p) k x op l is = absurd (cc is)
call_by (event.Include m y n) k x op l is = absurd (cc is)
call_by (event.Commit m) k x op l is = absurd (cc is)
call_by (event.Abort m) k x op l is = absurd (cc is)
call_by (event.GiveUp m) k x op l is = absurd (cc is)
call_by (event.Deliver f) k x op l is = let never : ask_of (event.Deliver f) ≡ Calls k x op = is in absurd (cc never)
call_by (event.Lose f) k x op l is = absurd (lost f is)
  where
    lost : (f : FrameNo) → ask_of (event.Lose f) ≡ Calls k x op → ⊥
    lost (frame_no.Number n) e = cc
    lost frame_no.Last e = cc
call_by (event.Tick n) k x op l is = absurd (cc is)
call_by event.Settle k x op l is = absurd (cc is)
call_by event.Quiesce k x op l is = absurd (cc is)
call_by (event.Crash n) k x op l is = absurd (cc is)
call_by (event.Restart n) k x op l is = absurd (cc is)
call_by (event.Stop n calls how) k x op l is = absurd (cc is)
call_by (event.Junk n bytes) k x op l is = absurd (cc is)
call_by (event.Show y) k x op l is = absurd (cc is)

same_count : (asks : Asks) (e : Event) (x : Asked) (l : List ℕ) → is_ask_by l e ≡ false → asks_with e x asks l ≡ asks l
same_count asks e x l not = (λ i. asks l ++ cond (not i) (x ∷ []) []) ∙ append-nil (asks l)

pub last_more : (xs : List Asked) (x : Asked) → last_asked (xs ++ x ∷ []) ≡ Some x
last_more [] x = refl
last_more (y ∷ []) x = refl
last_more (y ∷ z ∷ xs) x = last_more (z ∷ xs) x

-- ---- what was asked by another program

abbrev pub NotOther : Ask → Type 0
NotOther Other = ⊥
NotOther ask = ⊤

calls_still : (p : Phase) (asks more : Asks) (m : List ℕ) (o : Option Statement) → more m ≡ asks m → CallsSo p asks m o → CallsSo p more m o
calls_still phase.Calling asks more m o same (s, a, is, last, asked) = (s, a, is, ap last_asked same ∙ last, asked)
calls_still phase.Entering asks more m o same c = tt
calls_still phase.Beginning asks more m o same c = tt
calls_still _ asks more m o same c = c

elsewhere_asks : (ask : Ask) (e : Event) (i : ℕ) (l : List ℕ) → ask_of e ≡ ask → NotOther ask → IsElsewhere i ask → IsOf i l →
    is_ask_by l e ≡ false
elsewhere_asks (Calls m x op) e i l is other not of = by (bytes_eq m l) refl
  where
    by : (b : Bool) → bytes_eq m l ≡ b → is_ask_by l e ≡ false
    by false no_way = call_by e m x op l is ∙ no_way
    by true same = absurd (not (subst (IsOf i) (sym (same_label m l same)) of))
elsewhere_asks Other e i l is other not of = absurd other
elsewhere_asks (Begins m n) e i l is other not of = no_ask e l (subst IsNoCall (sym is) tt)
elsewhere_asks (BeginsIn m q) e i l is other not of = no_ask e l (subst IsNoCall (sym is) tt)
elsewhere_asks _ e i l is other not of = no_ask e l (subst IsNoCall (sym is) tt)

pub other_asked : (v : View) (asks : Asks) (ans : Counted) (c : Client) (e : Event) (x : Asked) → NotOther (ask_of e) →
    IsElsewhere c.number (ask_of e) → Holds v asks ans c → Holds v (asks_with e x asks) ans c
other_asked v asks ans c e x other not h =
    lifted c.phase v v asks (asks_with e x asks) ans ans c.number c.asked (mark_of c.top) (map mark_of c.blocks)
    (λ t. record {
      label = t.label;
      labels = t.labels;
      opens = t.opens;
      slack = λ l of. subst (λ xs. length xs ≤ ans l + pending c.phase (let m = inner_mark (mark_of c.top)
          (map mark_of c.blocks) in m.label) l)
          (sym (same_count asks e x l (elsewhere_asks (ask_of e) e c.number l refl other not of))) (t.slack l of);
      calls = calls_still c.phase asks (asks_with e x asks) (let m = inner_mark (mark_of c.top) (map mark_of c.blocks) in m.label) c.asked
          (same_count asks e x (let m = inner_mark (mark_of c.top) (map mark_of c.blocks) in m.label)
          (elsewhere_asks (ask_of e) e c.number (let m = inner_mark (mark_of c.top) (map mark_of c.blocks) in m.label) refl other not
          (inner_label c.number (mark_of c.top) (map mark_of c.blocks) t.label t.labels))) t.calls;
      done = t.done;
    }) h

-- ---- what the program asks itself

-- What is asked, and the program behind it: where it is accepted, and where it is refused.
pub record AskedSo (v : View) (asks : Asks) (ans : Counted) (ask : Ask) (c : Client) : Type 0 where
  pub accepted : (e : Event) (x : Asked) → ask_of e ≡ ask → x.event ≡ e → Holds v (asks_with e x asks) ans c
  pub refused : Holds v asks ans (refused_at c.phase c)
  pub has : HasAsked ask c
  pub named : NamedBy c.number ask
  pub other : ask ≡ Quiesces → ⊥

abbrev pub Goes : View → Asks → Counted → Option Ask → Client → Type 0
Goes v asks ans None c = Holds v asks ans c
Goes v asks ans (Some (GivesUp l)) c = Holds v asks ans c
Goes v asks ans (Some ask) c = AskedSo v asks ans ask c

module _ (v : View) (asks : Asks) (ans : Counted) where
  -- what holds of a program that waits for nothing
  abbrev Free : Phase → Client → Type 0
  Free p d = Tracks v asks ans p d.number d.asked (mark_of d.top) (map mark_of d.blocks)

  -- nothing of calls changes
  free_slack : (i : ℕ) (m : List ℕ) (e : Event) (x : Asked) → IsNoCall (ask_of e) →
      ((l : List ℕ) → IsOf i l → length (asks l) ≤ ans l + 0) → (l : List ℕ) → IsOf i l → length (asks_with e x asks l) ≤ ans l + 0
  free_slack i m e x not slack l of = subst (λ xs. length xs ≤ ans l + 0) (sym (same_count asks e x l (no_ask e l not))) (slack l of)

  begins_top : (c : Client) → c.blocks ≡ [] → Free phase.Entering c →
      AskedSo v asks ans (Begins (let t = c.top in t.label) c.node) (stands phase.Beginning c)
  begins_top c none t = record {
    accepted = λ e x is same. record {
      label = t.label;
      labels = t.labels;
      opens = t.opens;
      slack = free_slack c.number [] e x (subst IsNoCall (sym is) tt) t.slack;
      calls = tt;
      done = tt;
    };
    refused = subst (λ bs. Holds v asks ans (unbegun bs (stands phase.Beginning c))) (sym none) tt;
    has = (refl, none, refl);
    named = t.label;
    other = λ q. cc;
  }

  begins_nested : (c : Client) (b : Level) (bs : List Level) → IsOf c.number (let t = c.top in t.label) →
      AllByRecursion (λ (m : Mark). IsOf c.number m.label) (map mark_of bs) → b.said ≡ [] → IsOpen v (mark_of c.top) (map mark_of bs) →
      ((l : List ℕ) → IsOf c.number l → length (asks l) ≤ ans l + 0) →
      (let a = begins (b ∷ bs) c in AskedSo v asks ans (BeginsIn (next_label c) (let o = inner_of c.top bs in o.label)) a.client)
  begins_nested c b bs of all none op slack = record {
    accepted = λ e x is same. record {
      label = of;
      labels = (next_of, all);
      opens = (ap (map told_by) none, op);
      slack = free_slack c.number [] e x (subst IsNoCall (sym is) tt) slack;
      calls = tt;
      done = tt;
    };
    refused = record { label = of; labels = all; opens = op; slack = slack; calls = tt; done = tt };
    has = (refl, (_, bs, refl, refl, refl));
    named = (next_of, subst (IsOf c.number) (inner_same c.top bs) (inner_label c.number (mark_of c.top) (map mark_of bs) of all));
    other = λ q. cc;
  }
    where
      next_of : IsOf c.number (next_label c)
      next_of = (of.0, (decimal (attempt c) ++ (codes "b" ++ decimal (c.begun + 1)), refl))

  enters_so : (c : Client) (bs : List Level) → c.blocks ≡ bs → Free phase.Entering c →
      (let a = begins bs c in Goes v asks ans a.ask a.client)
  enters_so c [] is t = begins_top c is t
  enters_so c (b ∷ bs) is t =
      let all = subst (λ ls. AllByRecursion (λ (m : Mark). IsOf c.number m.label) (map mark_of ls)) is t.labels in
      let op = subst (λ ls. Opens true v (mark_of c.top) (map mark_of ls)) is t.opens in
      begins_nested c b bs t.label all.1 (unsaid b op.0) op.1 t.slack
    where
      unsaid : (l : Level) → map told_by l.said ≡ [] → l.said ≡ []
      unsaid l none = by l.said none
        where
          by : (xs : List _) → map told_by xs ≡ [] → xs ≡ []
          by [] e = refl
          by (x ∷ xs) e = absurd (cc e)

  -- a call
  calls_so : (s : Statement) (d : Client) → Free phase.Ready d →
      (let r = said_by s [] in AskedSo v asks ans (Calls (let l = inner d in l.label) r.x r.op) (record d {
        phase = phase.Calling;
        asked = Some s;
      }))
  calls_so s d t =
      let r = said_by s [] in
      let m = (let z = inner_mark (mark_of d.top) (map mark_of d.blocks) in z.label) in
      let inside_is : m ≡ (let l = inner d in l.label) = inner_same d.top d.blocks in
      record {
        accepted = λ e x is same. record {
          label = t.label;
          labels = t.labels;
          opens = t.opens;
          slack = λ l of. more l (asks l) (bytes_eq (let z = inner_mark (mark_of d.top) (map mark_of d.blocks) in z.label) l)
              (is_ask_by l e) x
              (call_by e (let z = inner d in z.label) r.x r.op l is
              ∙ ap (λ k. bytes_eq k l) (sym (inner_same d.top d.blocks))) (t.slack l of);
          calls = (
            s,
            x,
            refl,
            ap last_asked (λ i. asks (let z = inner_mark (mark_of d.top) (map mark_of d.blocks) in z.label)
                ++ cond ((call_by e (let z = inner d in z.label) r.x r.op (let z = inner_mark (mark_of d.top)
                (map mark_of d.blocks) in z.label) is
                ∙ ap (λ k. bytes_eq k (let z = inner_mark (mark_of d.top) (map mark_of d.blocks) in z.label)) (sym
                (inner_same d.top d.blocks))
                ∙ label_itself (let z = inner_mark (mark_of d.top) (map mark_of d.blocks) in z.label)) i) (x ∷ []) [])
                ∙ last_more (asks (let z = inner_mark (mark_of d.top) (map mark_of d.blocks) in z.label)) x,
            ap ask_of same ∙ is ∙ ap (λ k. Calls k r.x r.op) (sym (inner_same d.top d.blocks)),
          );
          done = tt;
        };
        refused = record { label = t.label; labels = t.labels; opens = t.opens; slack = t.slack; calls = tt; done = tt };
        has = tt;
        named = subst (IsOf d.number) (inner_same d.top d.blocks) (inner_label d.number (mark_of d.top)
            (map mark_of d.blocks) t.label t.labels);
        other = λ q. cc;
      }
    where
      more : (l : List ℕ) (xs : List Asked) (b asked : Bool) (x : Asked) → asked ≡ b → length xs ≤ ans l + 0 →
          length (xs ++ cond asked (x ∷ []) []) ≤ ans l + cond b 1 0
      more l xs true asked x is few = subst (λ q. length (xs ++ cond q (x ∷ []) []) ≤ ans l + 1) (sym is) (omega
          (arith, few, length-append xs (x ∷ [])))
      more l xs false asked x is few =
          let none : List Asked = [] in
          subst (λ q. length (xs ++ cond q (x ∷ []) []) ≤ ans l + 0) (sym is) (omega (arith, few, length-append xs none))

  asks_for_so : (s : Statement) (d : Client) → Free phase.Ready d → (let a = asks_for s d in Goes v asks ans a.ask a.client)
  asks_for_so (statement.Do x op) d t = calls_so (statement.Do x op) d t
  asks_for_so (statement.Print x op) d t = calls_so (statement.Print x op) d t
  asks_for_so (statement.If x op wanted first second) d t = calls_so (statement.If x op wanted first second) d t
  asks_for_so (statement.Block retry body) d t =
      let c = enters retry body d in begins_nested c (level
      (let l = inner d in l.label) body retry) d.blocks t.label t.labels refl t.opens t.slack
  asks_for_so statement.Fail d t = record { accepted = λ e x is same. tt; refused = tt; has = tt; named = tt; other = λ q. cc }

  -- with statements left behind
  left_behind : (rest : Listing) (c : Client) (bs : List Level) → c.blocks ≡ bs → Free phase.Ready c →
      Free phase.Ready (inside_at bs (leaves rest) c)
  left_behind rest c [] is t = record {
    label = t.label;
    labels = t.labels;
    opens = t.opens;
    slack = t.slack;
    calls = tt;
    done = tt;
  }
  left_behind rest c (b ∷ bs) is t =
      let u = subst (λ ls. Tracks v asks ans phase.Ready c.number c.asked (mark_of c.top) (map mark_of ls)) is t in
      record { label = u.label; labels = u.labels; opens = u.opens; slack = u.slack; calls = tt; done = tt }

  asks_next_so : (o : Option (Statement × Listing)) (c : Client) → Free phase.Ready c →
      (let a = asks_next o c in Goes v asks ans a.ask a.client)
  asks_next_so None c t = record {
    accepted = λ e x is same. record {
      label = t.label;
      labels = t.labels;
      opens = t.opens;
      slack = free_slack c.number [] e x (subst IsNoCall (sym is) tt) t.slack;
      calls = tt;
      done = tt;
    };
    refused = record { label = t.label; labels = t.labels; opens = t.opens; slack = t.slack; calls = tt; done = tt };
    has = (refl, refl);
    named = subst (IsOf c.number) (inner_same c.top c.blocks) (inner_label c.number (mark_of c.top)
        (map mark_of c.blocks) t.label t.labels);
    other = λ q. cc;
  }
  asks_next_so (Some p) c t = asks_for_so p.0 (inside (leaves p.1) c) (left_behind p.1 c c.blocks refl t)

  waits_so : (b : Bool) (l : List ℕ) (d : Client) → Holds v asks ans d → Goes v asks ans (if b then Some (GivesUp l) else None) d
  waits_so true l d h = h
  waits_so false l d h = h

  turned_by : (p : Phase) (c : Client) → c.phase ≡ p → Holds v asks ans c →
      (let a = (if is_over p then asking None c else if is_waiting p then waits_on c else asks_by p (record c {
        waited = 0;
      })) in Goes v asks ans a.ask a.client)
  turned_by phase.Entering c is h = enters_so (record c { waited = 0 }) c.blocks refl (holds_so v asks ans c phase.Entering is h)
  turned_by phase.Ready c is h =
      asks_next_so (cut (let l = inner_of c.top c.blocks in l.rest)) (record c { waited = 0 }) (holds_so v asks ans c phase.Ready is h)
  turned_by phase.Backing c is h =
      let t = holds_so v asks ans c phase.Backing is h in record {
        accepted = λ e x asked same. record {
          label = t.label;
          labels = t.labels;
          opens = t.opens;
          slack = free_slack c.number [] e x (subst IsNoCall (sym asked) tt) t.slack;
          calls = tt;
          done = tt;
        };
        refused = tt;
        has = tt;
        named = tt;
        other = λ q. cc;
      }
  turned_by phase.Beginning c is h = waits_so (c.waited + 1 == PATIENCE) _ (record c { waited = c.waited + 1 }) h
  turned_by phase.Calling c is h = waits_so (c.waited + 1 == PATIENCE) _ (record c { waited = c.waited + 1 }) h
  turned_by phase.Committing c is h = waits_so (c.waited + 1 == PATIENCE) _ (record c { waited = c.waited + 1 }) h
  turned_by phase.Aborting c is h = waits_so (c.waited + 1 == PATIENCE) _ (record c { waited = c.waited + 1 }) h
  turned_by phase.Failing c is h = waits_so (c.waited + 1 == PATIENCE) _ (record c { waited = c.waited + 1 }) h
  turned_by phase.Committed c is h = h
  turned_by phase.Failed c is h = h
  turned_by phase.GaveUp c is h = h

  pub turned_so : (c : Client) → Holds v asks ans c → (let a = turned c in Goes v asks ans a.ask a.client)
  turned_so c h = turned_by c.phase c refl h
