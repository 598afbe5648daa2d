-- As many actions began by the lines of what is reached as labels were given; so it is a world that is reached, where the journal has few
-- bindings and few actions.
use Rattle.arj_law_parts.proofs.Words
use Words.{◌≡◌, ◌∙◌, ◌≤◌, ◌+◌, ◌++◌, ℕ, suc, List, [], ◌∷◌, length, Option, Some, None, refl, sym, ap, subst, inl, inr, arith}
use Words.{AllByRecursion}
use Words.{append_assoc, append-nil, Body, Header, Kind, Label, Line, name, Disk, Effect, Do, Say, Send, Parts, worked, Seen, numbered}
use Words.{begin_action, next_uid, most_labels, world_by, is_serial, parent_of, with_coord, acts as does}
use Words.{again_all, tick_outs, restart_outs, parts_in}
use Words.body
use Rattle.arj_law_runs.proofs.Terms
use Terms.{Act, act_in, acts, acts_from, book, new_book, turned, AreRight, IsGiven, IsKept, IsWritten, Right, given, label_at, said, up}
use Terms.{at, down}
use Rattle.arj_law_parts.proofs.moves.{Happens.keeps_asked, Moving.moves_asked}
use Rattle.arj_law_runs.proofs.bindings.{Doings.one_more, Events.moves_labels}
use Rattle.arj_law_cause.specs.rows.Early.{HasFewActs}
use Rattle.arj_law_runs.proofs.forms.Labels.{acts_less}
use Rattle.arj_law_runs.proofs.journal.{Books.book_more, Models.its_acts, Owners.acts_more, Runs.lines_keep}
use Rattle.arj_law_runs.specs.calls.{Bindings.HasFewBindings, Reached.IsReached}
use Rattle.arj_law_runs.specs.journal.Book.{Book, book_from}
use Rattle.arj_promise.specs.Runs.{Run}
use Rattle.arj_protocol.specs.World.{Labelled}
use Rattle.arj_law_cause.proofs.confirm.Reached
use Reached.{AtFirst, ByAct, ByBegin, ByLines, ByMessage, ByRestart, ByStop, ByTick, IsOfWorld, OnWay, Reached, keeping_of, reached_has}
use Reached.{world_at}
use Reached.{reached_kept, worlds_kept}

-- ---- where no label is given, no action begins

pub right_rest : (B : Book) (ls ks : List Line) → AreRight B (ls ++ ks) → AreRight (book_from B ls) ks
right_rest B [] ks right = right
right_rest B (l ∷ ls) ks right = right_rest (turned B l.body) ls ks right.1

-- each label that was given stands for an action of these
abbrev Stand : List (Label × Labelled) → List Act → Type 0
Stand labels begun = (l : Label) (g : Labelled) → label_at l labels ≡ Some g → (a : Act) × (act_in begun (name l) ≡ Some a)

acts_stay : (labels : List (Label × Labelled)) (B : Book) (more : List Line) → AreRight B more → Stand labels B.acts →
    AllByRecursion (IsGiven labels) (book_from B more).acts → (book_from B more).acts ≡ B.acts
acts_stay labels B [] right stand given = refl
acts_stay labels B (line ∷ more) right stand given = by line.body right.0 (acts_less (IsGiven labels) (turned B line.body) more given)
    (λ next. acts_stay labels (turned B line.body) more right.1 next given)
  where
    by : (b : Body) → Right B b → AllByRecursion (IsGiven labels) (turned B b).acts →
        (Stand labels (turned B b).acts → (book_from (turned B b) more).acts ≡ (turned B b).acts) →
        (book_from (turned B b) more).acts ≡ B.acts
    by (body.Began l k u p) its now rest =
        let g = now.0 in
        let a = stand g.0 g.1 g.3 in
        let no_way : ◌≡◌ {A = Option Act} (Some a.0) None = sym a.1 ∙ ap (act_in B.acts) g.2 ∙ its.0 in
        absurd (cc no_way)
    by b its now rest = rest stand

-- what is seen later, with no label more
pub record Since (M N : Seen) : Type 0 where
  pub labels : N.labels ≡ M.labels
  pub start : N.start ≡ M.start
  pub more : List Line
  pub lines : N.lines ≡ M.lines ++ more

pub since_more : (M N : Seen) (bs : List Line) (Z : Seen) → Z.labels ≡ N.labels → Z.start ≡ N.start → Z.lines ≡ N.lines ++ bs → Since M N →
    Since M Z
since_more M N bs Z labels start lines s = record {
  labels = labels ∙ s.labels;
  start = start ∙ s.start;
  more = s.more ++ bs;
  lines = lines ∙ ap (λ ls. ls ++ bs) s.lines ∙ append_assoc M.lines s.more bs;
}

pub since_way : (M : Seen) (e k : ℕ) (es : List Effect) (v : Parts) (d : Disk) (N Z : Seen) → Since M N → OnWay e k es v d N Z → Since M Z
since_way M e k [] v d N Z s way = subst (Since M) way (record { labels = s.labels; start = s.start; more = s.more; lines = s.lines })
since_way M e k (Do w ∷ es) v d N Z s (inl stop) =
    subst (Since M) stop.1 (since_more M N (numbered e (body.Halted k ∷ [])) _ refl refl refl s)
since_way M e k (Do w ∷ es) v d N Z s (inr way) = since_way M e k es v (worked w d) N Z s way
since_way M e k (Say b ∷ es) v d N Z s way =
    since_way M e k es v d (said e (b ∷ []) N) Z (since_more M N (numbered e (b ∷ [])) (said e (b ∷ []) N) refl refl refl s) way
since_way M e k (Send to m ∷ es) v d N Z s way =
    since_way M e k es v d _ Z (since_more M N (numbered e way.0) _ refl refl refl s) way.2

pub first_since : (M N : Seen) → N.labels ≡ M.labels → N.start ≡ M.start → N.lines ≡ M.lines → Since M N
first_since M N labels start lines = record { labels = labels; start = start; more = []; lines = lines ∙ sym (append-nil M.lines) }

pub same_acts : (M N : Seen) → IsWritten M → IsWritten N → Since M N → acts N.lines ≡ acts M.lines
same_acts M N w v s =
    let there : book N.lines ≡ book_from (book M.lines) s.more = ap book s.lines ∙ book_more new_book M.lines s.more in
    sym (its_acts N.lines v.right) ∙ ap (λ (B : Book). B.acts) there
    ∙ acts_stay M.labels (book M.lines) s.more (right_rest new_book M.lines s.more (subst (AreRight new_book) s.lines v.right))
    (λ l g is. let a = w.begun l g is in (a.0, a.1))
    (subst (λ (B : Book). AllByRecursion (IsGiven M.labels) B.acts) there
    (subst (λ ls. AllByRecursion (IsGiven ls) (book N.lines).acts) s.labels v.labels))
    ∙ its_acts M.lines w.right

-- ---- counts

abbrev pub AsMany : Seen → Type 0
AsMany S = length S.labels ≡ length (acts S.lines)

module _ (hd : Header) where
  pub written : (S : Seen) → Reached hd S → IsWritten S
  written S r = (reached_has hd IsKept (keeps_asked hd IsKept (lines_keep hd)) S r).1

  stays : (M N : Seen) → Reached hd M → Reached hd N → Since M N → AsMany M → AsMany N
  stays M N r q s many = ap length s.labels ∙ many ∙ ap length (sym (same_acts M N (written M r) (written N q) s))

  -- an action begins
  one_more_act : (ls : List Line) (e : ℕ) (b : Body) (l : Label) (how : Kind) (parent : Option Label) (t : Parts) →
      b ≡ body.Began l how (next_uid (let c = t.coord in c.tree)) parent →
      length (acts (ls ++ numbered e (b ∷ []))) ≡ suc (length (acts ls))
  one_more_act ls e b l how parent t is = ap length (acts_more [] ls (numbered e (b ∷ [])))
      ∙ ap (λ x. length (acts_from (acts ls) (numbered e (x ∷ [])))) is

  pub as_many : (S : Seen) → Reached hd S → AsMany S
  as_many S (AtFirst st formed) = refl
  as_many S (ByLines e bs L quiet r) = stays L S r (ByLines e bs L quiet r)
      (since_more L L (numbered e bs) S refl refl refl (first_since L L refl refl refl)) (as_many L r)
  as_many S (ByStop e k d live L r) = stays (at k d live L) S r (ByStop e k d live L r)
      (since_more (at k d live L) L (numbered e (body.Halted k ∷ [])) S refl refl refl (first_since (at k d live L) L refl refl refl))
      (as_many (at k d live L) r)
  as_many S (ByMessage e k d t v from m outs L N r there meant is way) =
      stays (up k d t L) S r (ByMessage e k d t v from m outs L N r there meant is way)
      (since_way (up k d t L) e k outs v d L S (first_since (up k d t L) L refl refl refl) way) (as_many (up k d t L) r)
  as_many S (ByAct e k d t i L N r is asks free way) =
      let did = does i d.intents t.coord in
      stays (up k d t L) S r (ByAct e k d t i L N r is asks free way)
      (since_way (up k d t L) e k did.outs (with_coord t did.part) d L S (first_since (up k d t L) L refl refl refl) way) (as_many
      (up k d t L) r)
  as_many S (ByBegin e k d t l how parent L N r new may none way) =
      let did = begin_action l how parent (parent_of parent t.coord) t.coord in
      let g : Labelled = record { node = k; serial = is_serial how } in
      subst AsMany way (one_more l g L.labels new ∙ ap suc (as_many (up k d t L) r)
      ∙ sym (one_more_act L.lines e (body.Began l how (next_uid (let c = t.coord in c.tree)) parent) l how parent t refl))
  as_many S (ByTick e k d t L N r way) =
      stays (up k d t L) S r (ByTick e k d t L N r way)
      (since_way (up k d t L) e k (tick_outs (record { number = k; disk = d; live = Some t }) t)
      (with_coord t (let z = again_all t.coord.doings t.coord in z.part)) d L S
      (first_since (up k d t L) L refl refl refl) way) (as_many (up k d t L) r)
  as_many S (ByRestart e k d L N r way) =
      stays (down k d L) S r (ByRestart e k d L N r way)
      (since_way (down k d L) e k (restart_outs hd k (d.inc + 1) d) (parts_in k (d.inc + 1) d) d L S
      (first_since (down k d L) L refl refl refl) way) (as_many (down k d L) r)

-- ---- worlds

-- the world of what is reached
abbrev pub world_of : (hd : Header) (S : Seen) → Reached hd S → IsOfWorld hd S
world_of hd S r = reached_has hd (IsOfWorld hd) (worlds_kept hd) S r

pub reached_world : (hd : Header) (S : Seen) (r : Reached hd S) → HasFewBindings S.lines → HasFewActs S.lines →
    IsReached hd (world_at hd S (world_of hd S r))
reached_world hd S r few short =
    let h = world_of hd S r in
    record {
      keeping = keeping_of hd S r h;
      few = subst HasFewBindings (sym (ap (λ (Z : Seen). Z.lines) h.same)) few;
      labels = below (ap (λ (Z : Seen). length Z.labels) h.same ∙ as_many hd S r) short;
    }
  where
    below : {a b : ℕ} → a ≡ b → b ≤ most_labels → a ≤ most_labels
    below is le = omega (arith, is, le)

-- no run has more
pub runs_have_few : (hd : Header) (r : Run hd) → HasFewActs (let w = world_by hd r in w.lines)
runs_have_few hd r =
    let h = moves_asked hd (Reached hd) (reached_kept hd) r in
    below (sym (as_many hd _ h.holds)) (moves_labels hd r)
  where
    below : {a b : ℕ} → a ≡ b → b ≤ most_labels → a ≤ most_labels
    below is le = omega (arith, is, le)
