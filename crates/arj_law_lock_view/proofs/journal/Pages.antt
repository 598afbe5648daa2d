-- A page with more lines.
use Rattle.arj_law_parts.proofs.Words
use Words.{◌≡◌, ◌≤◌, ℕ, ◌+◌, List, [], ◌∷◌, ◌++◌, length, true, None, refl, sym, ◌∙◌, ap, subst, arith, Contains, Body, Line, name, Coord}
use Words.{is_naming_line, is_server_line, numbered}
use Rattle.arj_law_lock_view.proofs.Terms
use Terms.{Values, acts, act_in, begun_of, numbered as numbered_acts, is_quiet_line, AreDistinct, State, Acts, Codes, SameEnd, IsOnPage}
use Terms.{Page, AreCallsOf, AreIncludesOf, EndsSo, IsDecidedAt, IsTiedToLines, included_on, said_on, AreNamed, CallsStay, EndsStay}
use Terms.{GoesBeside, ArePlain, is_plain}
use Terms.body
use Terms.model
use Rattle.arj_law_lock.specs.machine.State.{Action}
use Rattle.arj_law_lock_view.proofs.journal.{Reading.acts_more, Reading.more, Ties.plain_goes, Ties.says_none, Ties.ties_are_kept}
use Rattle.arj_law_lock_view.specs.journal.Steps.{PartsSayPlain, PlainsAreTied}

-- ---- lines without which actions stay

-- where no action begins, the journal has its actions
pub acts_still : (lines : List Line) (event : ℕ) (b : Body) → begun_of b ≡ None → acts (more lines event b) ≡ acts lines
acts_still lines event b none = acts_more lines event b ∙ ap (numbered_acts (acts lines)) none

pub named_still : (act : Acts) (lines : List Line) (event : ℕ) (b : Body) → begun_of b ≡ None → AreNamed act lines →
    AreNamed act (more lines event b)
named_still act lines event b none n = let e = acts_still lines event b none in record {
  distinct = subst (λ us. AreDistinct us) (sym e) n.distinct;
  one = n.one;
  actions = λ a there plain. n.actions a (subst (λ us. Contains us a) e there) plain;
}

pub page_still : (act : Acts) (code : Codes) (x : ℕ) (p : Page) (c : Coord) (S T : State) (b : Body) → begun_of b ≡ None →
    IsOnPage act code x p c S → IsTiedToLines act code p.values x (more p.lines p.event b) T →
    IsOnPage act code x (record p { lines = more p.lines p.event b }) c T
page_still act code x p c S T b none on tied = record {
  named = named_still act p.lines p.event b none on.named;
  labels = λ u q d found works. (let l = on.labels u q d found works in
      (l.0, ap (λ us. act_in us (name d.label)) (acts_still p.lines p.event b none) ∙ l.1, l.2, l.3));
  tied = tied;
}

-- ---- the machine in another state

same_so : (lines : List Line) (a : model.Act) (m n : Action) → SameEnd m n → EndsSo lines a m → EndsSo lines a n
same_so lines a m n so w = record {
  place = λ e i is. (let k = w.place e i is in (so.place ∙ k.0, (let l = k.1 in let s = so.stage in omega (arith, l, s))));
  commit = λ e i is. (let k = w.commit e i is in (so.stage ∙ k.0, so.done ∙ k.1));
  found = λ e i is. (let k = w.found e i is in (so.stage ∙ k.0, (let l = k.1 in let s = so.done in omega (arith, l, s))));
  only = λ is. (let k = w.only (sym so.stage ∙ is) in (k.0, (let l = k.1 in let s = so.done in omega (arith, l, s))));
  decided = λ is. subst (IsDecidedAt lines a) (sym so.done) (w.decided (sym so.stage ∙ is));
  gone = λ is. w.gone (sym so.stage ∙ is);
  over = λ is. (let l = w.over is in let s = so.stage in omega (arith, l, s));
  halted = λ is. (let l = w.halted is in let s = so.stage in omega (arith, l, s));
}

-- with the same calls, no line behind, and each action as far as it was
pub tied_same : (act : Acts) (code : Codes) (p : Page) (x : ℕ) (S T : State) → AreNamed act p.lines → T.now ≤ length p.lines + 1 → T.initial
    ≡ S.initial → CallsStay S T → EndsStay S T → IsTiedToLines act code p.values x p.lines S → IsTiedToLines act code p.values x p.lines T
tied_same act code p x S T named now first calls ends tied = record {
  now = now;
  writer = tied.writer;
  first = first ∙ tied.first;
  calls = subst (λ cs. AreCallsOf act code (said_on x p.lines) cs) (sym calls.0) tied.calls;
  includes = subst (λ cs. AreIncludesOf act (included_on x p.lines) cs) (sym calls.1) tied.includes;
  ends = λ a there plain. same_so p.lines a (S.action (act a.uid)) (T.action (act a.uid)) (ends (act a.uid) (named.actions a there plain))
      (tied.ends a there plain);
}

-- ---- one line, and plain ones

pub same_stay : (S : State) → EndsStay S S
same_stay S a its = record { stage = refl; place = refl; done = refl }

module _ (act : Acts) (code : Codes) (x : ℕ) (p : Page) (c : Coord) (S T : State) (on : IsOnPage act code x p c S) where
  -- what belongs to the line is done
  pub one_tied : (b : Body) → T.initial ≡ S.initial → T.now ≤ length p.lines + 2 → GoesBeside act code x p.lines b S T →
      IsTiedToLines act code p.values x (more p.lines p.event b) T
  one_tied b first now goes = ties_are_kept act code p.values x p.event p.lines b S T on.named first now goes on.tied

  pub none_tied : T.initial ≡ S.initial → T.now ≤ length p.lines + 1 → CallsStay S T → EndsStay S T →
      IsTiedToLines act code p.values x p.lines T
  none_tied first now calls ends = tied_same act code p x S T on.named now first calls ends on.tied

pub page_plain : (act : Acts) (code : Codes) (x : ℕ) (p : Page) (c : Coord) (S : State) (b : Body) → is_plain b ≡ true →
    IsOnPage act code x p c S → IsOnPage act code x (record p { lines = more p.lines p.event b }) c S
page_plain act code x p c S b plain on =
    let says = says_none (acts p.lines) b plain in
    page_still act code x p c S S b says.begun on (one_tied act code x p c S S on b refl (let t = on.tied in let l = t.now in
    omega (arith, l)) (plain_goes act code x p.lines b S S plain (refl, refl) (same_stay S)))

-- the page behind lines
abbrev pub behind : Page → List Body → Page
behind p bs = record p { lines = p.lines ++ numbered p.event bs }

pub append_one : {A : Type 0} (xs ys : List A) (y : A) → (xs ++ y ∷ []) ++ ys ≡ xs ++ y ∷ ys
append_one [] ys y = refl
append_one (x ∷ xs) ys y = ap (λ zs. x ∷ zs) (append_one xs ys y)

pub append_nil : {A : Type 0} (xs : List A) → xs ++ [] ≡ xs
append_nil [] = refl
append_nil (x ∷ xs) = ap (λ zs. x ∷ zs) (append_nil xs)

pub behind_none : (p : Page) → behind p [] ≡ p
behind_none p = ap (λ ls. record p { lines = ls }) (append_nil p.lines)

pub behind_one : (p : Page) (b : Body) (bs : List Body) → behind (record p { lines = more p.lines p.event b }) bs ≡ behind p (b ∷ bs)
behind_one p b bs = ap (λ ls. record p { lines = ls }) (append_one p.lines (numbered p.event bs) (record { event = p.event; body = b }))

pub pages_plain : (act : Acts) (code : Codes) (x : ℕ) (c : Coord) (S : State) (bs : List Body) (p : Page) → ArePlain bs →
    IsOnPage act code x p c S → IsOnPage act code x (behind p bs) c S
pages_plain act code x c S [] p all on = subst (λ q. IsOnPage act code x q c S) (sym (behind_none p)) on
pages_plain act code x c S (b ∷ bs) p all on = subst (λ q. IsOnPage act code x q c S) (behind_one p b bs)
    (pages_plain act code x c S bs (record p { lines = more p.lines p.event b }) all.1 (page_plain act code x p c S b all.0 on))

-- ---- plain lines, as the machine goes on

plains_tied : (act : Acts) (code : Codes) (values : Values) (x event : ℕ) (T : State) (bs : List Body) (lines : List Line) → AreNamed act
    lines → ArePlain bs → IsTiedToLines act code values x lines T → IsTiedToLines act code values x (lines ++ numbered event bs) T
plains_tied act code values x event T [] lines named all tied =
    subst (λ ls. IsTiedToLines act code values x ls T) (sym (append_nil lines)) tied
plains_tied act code values x event T (b ∷ bs) lines named all tied =
    subst (λ ls. IsTiedToLines act code values x ls T) (append_one lines (numbered event bs) (record { event = event; body = b }))
    (plains_tied act code values x event T bs (more lines event b)
    (named_still act lines event b (let s = says_none (acts lines) b all.0 in s.begun) named) all.1
    (ties_are_kept act code values x event lines b T T named refl (let k = tied.now in
    omega (arith, k)) (plain_goes act code x lines b T T all.0 (refl, refl) (same_stay T)) tied))

pub plains_are_tied : PlainsAreTied
plains_are_tied act code values x event lines bs S T named first now calls ends all tied =
    plains_tied act code values x event T bs lines named all (tied_same act code (record { lines = lines; event = event; values = values })
    x S T named (let k = tied.now in omega (arith, k, now)) first calls ends tied)

-- ---- who says plain lines

quiet_plain : (b : Body) → is_quiet_line b ≡ true → is_plain b ≡ true
quiet_plain (body.Began l k u p) h = absurd (cc h)
quiet_plain (body.Committing l) h = absurd (cc h)
quiet_plain (body.Committed l) h = absurd (cc h)
quiet_plain (body.Aborted l c) h = absurd (cc h)
quiet_plain (body.Ended l) h = absurd (cc h)
quiet_plain (body.Recovered n u) h = absurd (cc h)
quiet_plain (body.Halted n) h = absurd (cc h)
quiet_plain (body.Ok l y o r) h = absurd (cc h)
quiet_plain (body.Includes l y n) h = absurd (cc h)
quiet_plain b h = refl

server_plain : (n : ℕ) (b : Body) → is_server_line n b ≡ true → is_plain b ≡ true
server_plain n (body.Began l k u p) h = absurd (cc h)
server_plain n (body.Committing l) h = absurd (cc h)
server_plain n (body.Committed l) h = absurd (cc h)
server_plain n (body.Aborted l c) h = absurd (cc h)
server_plain n (body.Ended l) h = absurd (cc h)
server_plain n (body.Recovered m u) h = absurd (cc h)
server_plain n (body.Halted m) h = absurd (cc h)
server_plain n (body.Ok l y o r) h = absurd (cc h)
server_plain n (body.Includes l y m) h = absurd (cc h)
server_plain n b h = refl

naming_plain : (b : Body) → is_naming_line b ≡ true → is_plain b ≡ true
naming_plain (body.Began l k u p) h = absurd (cc h)
naming_plain (body.Committing l) h = absurd (cc h)
naming_plain (body.Committed l) h = absurd (cc h)
naming_plain (body.Aborted l c) h = absurd (cc h)
naming_plain (body.Ended l) h = absurd (cc h)
naming_plain (body.Recovered m u) h = absurd (cc h)
naming_plain (body.Halted m) h = absurd (cc h)
naming_plain (body.Ok l y o r) h = absurd (cc h)
naming_plain (body.Includes l y m) h = absurd (cc h)
naming_plain b h = refl

pub parts_say_plain : PartsSayPlain
parts_say_plain = (quiet_plain, (server_plain, naming_plain))
