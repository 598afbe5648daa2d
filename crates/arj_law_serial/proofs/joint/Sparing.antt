-- Of a top that committed while nobody took part in it no line says an exclusion, and none will.
use Rattle.arj_law_parts.proofs.Words
use Words.{◌≡◌, ◌||◌, ◌==◌, ◌&&◌, ◌++◌, ◌∙◌, ℕ, Bool, true, false, cond, List, [], ◌∷◌, Option, Some, ap, inl, inr, refl, subst, sym}
use Words.{⊎_elim, is_some, bytes_eq, bytes_eq-Decides, is_on, In, in_from, actor, plan_of, Doing, doing_of, Disk, Parts, has, Branch}
use Words.{branch_of, is_own, Ask, Body, Line, Uid, name, Seen}
use Words.ask
use Words.body
use Words.ending
use Rattle.arj_law_serial.proofs.Terms
use Terms.{KnowsIdle, Book, book, is_decided, new_book, turned, IsIdle, IsKept, IsKnown, KnowsUp, AreRight, Right, book_more, decided_later}
use Terms.{later_from, or_which, its_acts, its_sound, named_in, named_label, its_own, IsPart, KnowsParted, Act, act_in, acts, Action}
use Terms.{paths_of, IsBusy, IsGoodCoord, IsVoting, found_by, IsGoodOf, good_coord, same_number, up, ConfirmsFor, IsSpared, MarksAreAsked}
use Terms.{WasAsked, excludes, was_marked}
use Rattle.arj_law_runs.proofs.journal.{Books.never, Books.open_is, Closed.idle_stays, Idles.alone_is_idle}
use Rattle.arj_law_serial.proofs.{joint.Called.right_behind, joint.MarkMoves.acts_stay, joint.MarkRuns.marked_more, order.Paths.found}

-- ---- it stays so

-- no line says an exclusion of who is decided
pub decided_unmarked : (B : Book) (ls : List Line) → AreRight B ls → (l : List ℕ) (a : Act) → act_in B.acts l ≡ Some a →
    is_decided B a.uid ≡ true → (x s : ℕ) → was_marked ls l x s ≡ false
decided_unmarked B [] right l a named done x s = refl
decided_unmarked B (k ∷ ls) right l a named done x s = λ i. first k.body right.0 i || decided_unmarked (turned B k.body) ls right.1 l a
    (acts_stay B (k ∷ []) (right.0, tt) l a named) (decided_later B (turned B k.body) (later_from B (k ∷ [])) a.uid done) x s i
  where
    first : (b : Body) → Right B b → excludes l x s b ≡ false
    first (body.Excluded m y n) (z, open_it, on) = one (bytes_eq (name m) l) refl
      where
        one : (b : Bool) → bytes_eq (name m) l ≡ b → (b && ((y == x) && (n == s))) ≡ false
        one false same = refl
        one true same =
            let q : ◌≡◌ {A = Option Act} (Some z) (Some a) = sym open_it.named ∙ ap (act_in B.acts) ((bytes_eq-Decides (name m) l).0 same)
            ∙ named in
            let one_act : z ≡ a = cc q in
            let at = ap (λ (y : Act). is_decided B y.uid) one_act ∙ done in
            absurd (⊎_elim (λ committed. never committed (open_is B z.uid open_it.unended).0) (λ was. never was open_it.unfound)
            (or_which (is_on B.committed z.uid) (is_on B.found z.uid) at))
    first b r = refl

spared_stays : (before more : List Line) (u : Uid) → AreRight new_book (before ++ more) → is_decided (book before) u ≡ true →
    IsSpared before u → IsSpared (before ++ more) u
spared_stays before more u right done p = record {
  act = p.act;
  named = ap (λ (B : Book). act_in B.acts p.act.label) (book_more new_book before more)
      ∙ acts_stay (book before) more (right_behind new_book before more right) p.act.label p.act p.named;
  uid = p.uid;
  spared = λ x s. marked_more before more p.act.label x s ∙ (λ i. p.spared x s i || decided_unmarked (book before) more
      (right_behind new_book before more right) p.act.label p.act p.named (ap (is_decided (book before)) p.uid ∙ done) x s i);
}

-- ---- who was left alone

-- whom Votes and Confirms were sent, with the actions that were begun
abbrev pub ArePartedNow : Seen → Type 0
ArePartedNow M = (begun : List Action) × IsGoodOf begun M × KnowsParted begun M

module _ (k : ℕ) (d : Disk) (t : Parts) (M : Seen) (kept : IsKept (up k d t M)) (asked : MarksAreAsked (up k d t M))
    (parted : ArePartedNow (up k d t M)) (u : Uid) (b : Branch) (q : Doing) (found_b : branch_of u t.coord.tree ≡ Some b)
    (does : doing_of u t.coord ≡ Some q) (committed : b.ended ≡ Some ending.Commit) (took : q.took ≡ []) where
  right : AreRight new_book M.lines
  right = let w = kept.1 in w.right

  up_now : KnowsUp (book M.lines) d.intents t.coord
  up_now = let w = kept.1 in let o = its_own k d (Some t) M w in o.live t refl

  known : IsKnown (book M.lines) u b.kind b.ended q.label
  known = let n = up_now in let m = n.knows in m.acts u b q found_b does

  label : known.act.label ≡ name q.label
  label = named_label (book M.lines).acts (name q.label) known.act known.named

  -- it isn't at its commit, and nobody took part in that
  no_part : (to : ℕ) (a : Ask) → IsPart t.coord u to a → ⊥
  no_part to a (inl s) = never (ap is_some (ap (λ (y : Branch). y.ended) same ∙ committed)) voting.asking.opened
    where
      good : IsGoodCoord (let g = kept.0 in g.0) (paths_of (let g = kept.0 in g.0)) t.coord
      good = good_coord 0 k d t M kept.0

      voting : IsVoting t.coord.tree u (plan_of s.machine)
      voting = subst (IsBusy t.coord.tree u) s.now (good.busy u s.doing s.works)

      same : voting.asking.branch ≡ b
      same = let e : ◌≡◌ {A = Option Branch} (Some voting.asking.branch) (Some b) = sym voting.asking.found ∙ found_b in cc e
  no_part to a (inr h) =
      let e : ◌≡◌ {A = Option Branch} (Some h.branch) (Some b) = sym h.found ∙ found_b in
      let same : h.branch ≡ b = cc e in
      let f : ◌≡◌ {A = Option Doing} (Some h.doing) (Some q) = sym h.works ∙ does in
      let works : h.doing ≡ q = cc f in
      never (h.took (ap (λ (y : Branch). y.ended) same ∙ committed)) (ap (λ (y : Doing). has y.took to) works ∙ ap (λ ns. has ns to) took)

  none : (x s : ℕ) → was_marked M.lines known.act.label x s ≡ false
  none x s = by (was_marked M.lines known.act.label x s) refl
    where
      by : (c : Bool) → was_marked M.lines known.act.label x s ≡ c → c ≡ false
      by false is = refl
      by true is = absurd (no_part w.post.to (ask.Confirm c.grants c.excluded c.included)
          (subst (λ v. IsPart t.coord v w.post.to (ask.Confirm c.grants c.excluded c.included)) whose its))
        where
          w : WasAsked M.lines M.sent known.act.label
          w = asked known.act.label x s is

          c : ConfirmsFor w.act.uid w.post.message
          c = w.confirms

          one : w.act ≡ known.act
          one =
              let apart = (let z = its_sound M.lines right in z.distinct) in
              let there : In known.act (acts M.lines) = subst (In known.act) (its_acts M.lines right)
              (named_in (book M.lines).acts (name q.label) known.act known.named) in
              let e : ◌≡◌ {A = Option Act} (Some w.act) (Some known.act) = sym (found (acts M.lines) apart w.act (in_from w.act
              (acts M.lines) w.there)) ∙ ap (act_in (acts M.lines)) w.label ∙ found (acts M.lines) apart known.act there in
              cc e

          whose : actor c.head.path ≡ u
          whose = c.whose ∙ ap (λ (y : Act). y.uid) one ∙ known.uid

          its : IsPart t.coord (actor c.head.path) w.post.to (ask.Confirm c.grants c.excluded c.included)
          its =
              let p = parted.2 in
              let z = p.coords k (record { number = k; disk = d; live = Some t }) t
              (λ i. cond (same_number k i) (Some (record { number = k; disk = d; live = Some t })) (M.nodes k)) refl in
              z.0 w.post c.head (ask.Confirm c.grants c.excluded c.included) w.posted c.asked refl
              (ap (λ v. is_own v t.coord.tree) whose ∙ (found_by u t.coord.tree b found_b).0)

  pub alone_is_spared : IsSpared M.lines u
  alone_is_spared = record { act = known.act; named = ap (act_in (book M.lines).acts) label ∙ known.named; uid = known.uid; spared = none }

-- ---- what is known of idle tops

-- nothing of it survives, and no line says an exclusion of it
abbrev pub IsIdleSo : List Line → Uid → Type 0
IsIdleSo lines u = IsIdle (book lines) u × IsSpared lines u

pub knows_spared : (R : Seen → Type 0) → ((M : Seen) → R M → MarksAreAsked M × ArePartedNow M) → KnowsIdle R IsIdleSo
knows_spared R known = record {
  stays = λ M r kept before more u is decided (idle, spared). let right = subst (AreRight new_book) is (let w = kept.1 in w.right) in
      subst (λ ls. IsIdleSo ls u) (sym is) (idle_stays before more u right idle, spared_stays before more u right decided spared);
  alone = λ k d t M r kept u b q found does committed top took. let z = known (up k d t M) r in (
    alone_is_idle k d t M kept u
        (record { branch = b; doing = q; found = found; does = does; committed = committed; top = top; took = took }),
    alone_is_spared k d t M kept z.0 z.1 u b q found does committed took,
  );
}
