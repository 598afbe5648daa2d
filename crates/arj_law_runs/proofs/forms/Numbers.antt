-- The number of an action is at most the count of labels that were given: no more actions are at work at a node, and it begins as the
-- next of them.
use Rattle.arj_law_parts.proofs.Words
use Words.{◌≡◌, ◌∙◌, ◌≤◌, ◌+◌, ◌++◌, ℕ, suc, List, [], ◌∷◌, length, Option, Some, None, refl, sym, ap, subst, arith}
use Words.{append_assoc, AllByRecursion, in_from}
use Words.{again_all, Body, Header, Kind, Label, Line, name, Disk, Effect, Do, Say, Send, worked, tick_outs}
use Words.{acts as acts_of, parts_in, restart_outs, next_uid, Parts, with_coord, Seen, numbered, is_serial, insert_entry, label_cmp}
use Words.{world_by, began_line, Labelled, same_number, cond, append-nil, In}
use Words.body
use Rattle.arj_law_runs.proofs.Terms
use Terms.{Act, act_in, book, new_book, turned, AreRight, IsGiven, IsKept, IsWritten, Keeps, Right, Walks, Up, at, given, halted, label_at}
use Terms.{said, up, walks_both, walks_to}
use Rattle.arj_law_parts.proofs.moves.{Happens.keeps_asked, Moving.moves_asked}
use Rattle.arj_law_runs.proofs.bindings.{Doings.HaveLabels, Doings.labels_go, Doings.one_more, Events.moves_labels}
use Rattle.arj_law_runs.proofs.calls.Reaching.{moves_keep}
use Rattle.arj_law_runs.proofs.forms.Labels.{acts_less}
use Rattle.arj_law_runs.proofs.journal.{Books.book_more, Models.its_acts, Owners.all_in, Owners.kept_nodes, Runs.lines_keep}
use Rattle.arj_law_runs.proofs.kept.Handled.{it}
use Rattle.arj_law_runs.specs.forms.Numbers.{RunsNumberActions}
use Rattle.arj_law_runs.specs.journal.Book.{Book, book_from}
use Rattle.arj_start.specs.Limits.{most_labels}

-- ---- where no label is given, no action begins

right_rest : (B : Book) (ls ks : List Line) → AreRight B (ls ++ ks) → AreRight (book_from B ls) ks
right_rest B [] ks right = right
right_rest B (l ∷ ls) ks right = right_rest (turned B l.body) ls ks right.1

-- each label that was given stands for an action of these
abbrev Stand : List (Label × Labelled) → List Act → Type 0
Stand labels acts = (l : Label) (g : Labelled) → label_at l labels ≡ Some g → (a : Act) × (act_in acts (name l) ≡ Some a)

acts_stay : (labels : List (Label × Labelled)) (B : Book) (more : List Line) → AreRight B more → Stand labels B.acts →
    AllByRecursion (IsGiven labels) (book_from B more).acts → (book_from B more).acts ≡ B.acts
acts_stay labels B [] right stand given = refl
acts_stay labels B (line ∷ more) right stand given = by line.body right.0 (acts_less (IsGiven labels) (turned B line.body) more given)
    (λ next. acts_stay labels (turned B line.body) more right.1 next given)
  where
    by : (b : Body) → Right B b → AllByRecursion (IsGiven labels) (turned B b).acts →
        (Stand labels (turned B b).acts → (book_from (turned B b) more).acts ≡ (turned B b).acts) →
        (book_from (turned B b) more).acts ≡ B.acts
    by (body.Began l k u p) its now rest =
        let g = now.0 in
        let a = stand g.0 g.1 g.3 in
        let no_way : ◌≡◌ {A = Option Act} (Some a.0) None = sym a.1 ∙ ap (act_in B.acts) g.2 ∙ its.0 in
        absurd (cc no_way)
    by b its now rest = rest stand

-- what is seen later, with no label more
record Since (M N : Seen) : Type 0 where
  labels : N.labels ≡ M.labels
  more : List Line
  lines : N.lines ≡ M.lines ++ more

since_said : (M N : Seen) (e : ℕ) (bs : List Body) → Since M N → Since M (said e bs N)
since_said M N e bs s = record {
  labels = s.labels;
  more = s.more ++ numbered e bs;
  lines = ap (λ ls. ls ++ numbered e bs) s.lines ∙ append_assoc M.lines s.more (numbered e bs);
}

since_walk : (M : Seen) (e k : ℕ) (es : List Effect) (v : Parts) (d : Disk) (N : Seen) → Since M N →
    Walks (Since M) e k es (Up (Since M) k v) d N
since_walk M e k [] v d N s = record { labels = s.labels; more = s.more; lines = s.lines }
since_walk M e k (Do w ∷ es) v d N s = (
  λ how. let h = since_said M N e (body.Halted k ∷ []) s in record { labels = h.labels; more = h.more; lines = h.lines },
  since_walk M e k es v (worked w d) N s,
)
since_walk M e k (Say b ∷ es) v d N s = since_walk M e k es v d (said e (b ∷ []) N) (since_said M N e (b ∷ []) s)
since_walk M e k (Send to m ∷ es) v d N s = λ more quiet. since_walk M e k es v d _
    (let h = since_said M N e more s in record { labels = h.labels; more = h.more; lines = h.lines })

same_acts : (M N : Seen) → IsWritten M → IsWritten N → Since M N → (book N.lines).acts ≡ (book M.lines).acts
same_acts M N w v s =
    let there : book N.lines ≡ book_from (book M.lines) s.more = ap book s.lines ∙ book_more new_book M.lines s.more in
    ap (λ (B : Book). B.acts) there
    ∙ acts_stay M.labels (book M.lines) s.more (right_rest new_book M.lines s.more (subst (AreRight new_book) s.lines v.right))
    (λ l g is. let a = w.begun l g is in (a.0, a.1))
    (subst (λ (B : Book). AllByRecursion (IsGiven M.labels) B.acts) there
    (subst (λ ls. AllByRecursion (IsGiven ls) (book N.lines).acts) s.labels v.labels))

-- ---- numbers

abbrev UpTo : ℕ → List Act → Type 0
UpTo most acts = AllByRecursion (λ (a : Act). (let u = a.uid in u.num) ≤ most) acts

abbrev NumbersFit : Seen → Type 0
NumbersFit M = UpTo (length M.labels) (book M.lines).acts

-- what handlers keep beside it
abbrev AreNumbered : Seen → Type 0
AreNumbered M = (IsKept M × HaveLabels M) × NumbersFit M

stay_fit : (M N : Seen) → IsKept M → NumbersFit M → IsKept N → Since M N → NumbersFit N
stay_fit M N kept fit later s = subst (λ acts. UpTo (length N.labels) acts) (sym (same_acts M N kept.1 later.1 s))
    (subst (λ ls. UpTo (length ls) (book M.lines).acts) (sym s.labels) fit)

-- a step in which no action begins
step_fits : (e k : ℕ) (es : List Effect) (v : Parts) (d : Disk) (M N : Seen) → IsKept M → NumbersFit M → Since M N →
    Walks IsKept e k es (Up IsKept k v) d N → Walks HaveLabels e k es (Up HaveLabels k v) d N →
    Walks AreNumbered e k es (Up AreNumbered k v) d N
step_fits e k es v d M N kept fit s a b =
    walks_to (λ X. (IsKept X × HaveLabels X) × Since M X) AreNumbered e k es
    (λ c X. (Up IsKept k v c X × Up HaveLabels k v c X) × Up (Since M) k v c X) (Up AreNumbered k v) d N
    (λ X h. (h.0, stay_fit M X kept fit h.0.0 h.1)) (λ c X h. (h.0, stay_fit M (up k c v X) kept fit h.0.0 h.1))
    (walks_both (λ X. IsKept X × HaveLabels X) (Since M) e k es (λ c X. Up IsKept k v c X × Up HaveLabels k v c X) (Up (Since M) k v) d N
    (walks_both IsKept HaveLabels e k es (Up IsKept k v) (Up HaveLabels k v) d N a b) (since_walk M e k es v d N s))

more_fit : (n m : ℕ) (acts : List Act) → n ≤ m → UpTo n acts → UpTo m acts
more_fit n m [] le fit = tt
more_fit n m (a ∷ acts) le fit = (through (let u = a.uid in u.num) n m fit.0 le, more_fit n m acts le fit.1)
  where
    through : (a b c : ℕ) → a ≤ b → b ≤ c → a ≤ c
    through a b c x y = omega (arith, x, y)

-- an action begins
begin_fits : (e k : ℕ) (d : Disk) (t : Parts) (l : Label) (how : Kind) (parent : Option Label) (g : Labelled) (M : Seen) →
    label_at l M.labels ≡ None → AreNumbered (up k d t M) →
    NumbersFit (said e (began_line l how (next_uid t.coord.tree) parent ∷ []) (given l g M))
begin_fits e k d t l how parent g M new all =
    let count = one_more l g M.labels new in
    let works = (it e k d t M all.0.0.0).faithful.works in
    let few = all.0.1 k (record { number = k; disk = d; live = Some t }) (here k d t M) t refl in
    subst (λ (B : Book). UpTo (length (insert_entry label_cmp M.labels l g)) B.acts)
    (sym (book_more new_book M.lines (numbered e (began_line l how (next_uid t.coord.tree) parent ∷ [])))) (
      next (length t.coord.tree.branches) (length t.coord.doings) (length M.labels)
          (length (insert_entry label_cmp M.labels l g)) works few count,
      more_fit (length M.labels) (length (insert_entry label_cmp M.labels l g)) (book M.lines).acts (one (length M.labels) _ count) all.1,
    )
  where
    next : (b d n m : ℕ) → d ≡ b → d ≤ n → m ≡ suc n → b + 1 ≤ m
    next b d n m same le is = omega (arith, same, le, is)

    one : (n m : ℕ) → m ≡ suc n → n ≤ m
    one n m is = omega (arith, is)

    here : (k : ℕ) (d : Disk) (t : Parts) (M : Seen) → (up k d t M).nodes k ≡ Some (record { number = k; disk = d; live = Some t })
    here k d t M = λ i. cond (same_number k i) (Some (record { number = k; disk = d; live = Some t })) (M.nodes k)

first_since : (M : Seen) → Since M M
first_since M = record { labels = refl; more = []; lines = sym (append-nil M.lines) }

numbers_keep : (hd : Header) → Keeps hd AreNumbered
numbers_keep hd = record {
  quiet = λ e bs M quiet all. let k = keep.quiet e bs M quiet all.0.0 in
      ((k, labels.quiet e bs M quiet all.0.1), stay_fit M (said e bs M) all.0.0 all.1 k (since_said M M e bs (first_since M)));
  stop = λ e k d live M all. let h = keep.stop e k d live M all.0.0 in (
    (h, labels.stop e k d live M all.0.1),
    stay_fit (at k d live M) (halted e k d M) all.0.0 all.1 h
        (let s = since_said M M e (body.Halted k ∷ []) (first_since M) in record { labels = s.labels; more = s.more; lines = s.lines }),
  );
  message = λ e k d t v from m outs M all there meant is. step_fits e k outs v d (up k d t M) M all.0.0 all.1 (from_up k d t M)
      (keep.message e k d t v from m outs M all.0.0 there meant is) (labels.message e k d t v from m outs M all.0.1 there meant is);
  act = λ e k d t i M is none all. let did = acts_of i d.intents t.coord in
      step_fits e k did.outs (with_coord t did.part) d (up k d t M) M all.0.0 all.1 (from_up k d t M) (keep.act e k d t i M is none all.0.0)
      (labels.act e k d t i M is none all.0.1);
  begin = λ e k d t l how parent M new may none all. let g : Labelled = record { node = k; serial = is_serial how } in (
    (keep.begin e k d t l how parent M new may none all.0.0, labels.begin e k d t l how parent M new may none all.0.1),
    begin_fits e k d t l how parent g M new all,
  );
  tick = λ e k d t M all. step_fits e k (tick_outs (record { number = k; disk = d; live = Some t }) t)
      (with_coord t (again_all t.coord.doings t.coord).part) d (up k d t M) M all.0.0 all.1 (from_up k d t M) (keep.tick e k d t M all.0.0)
      (labels.tick e k d t M all.0.1);
  restart = λ e k d M all. step_fits e k (restart_outs hd k (d.inc + 1) d) (parts_in k (d.inc + 1) d) d (at k d None M) M all.0.0 all.1
      (let s = first_since M in record { labels = s.labels; more = s.more; lines = s.lines }) (keep.restart e k d M all.0.0)
      (labels.restart e k d M all.0.1);
  first = λ st formed. ((keep.first st formed, labels.first st formed), tt);
}
  where
    keep : Keeps hd IsKept
    keep = lines_keep hd

    labels : Keeps hd HaveLabels
    labels = labels_go hd

    from_up : (k : ℕ) (d : Disk) (t : Parts) (M : Seen) → Since (up k d t M) M
    from_up k d t M = let s = first_since M in record { labels = s.labels; more = s.more; lines = s.lines }

pub runs_number_actions : RunsNumberActions
runs_number_actions hd r a there =
    let w = world_by hd r in
    let h = moves_asked hd AreNumbered (keeps_asked hd AreNumbered (numbers_keep hd)) r in
    let fit = h.holds.1 in
    let right = h.holds.0.0.1.right in
    let i = subst (In a) (sym (its_acts w.lines right)) (in_from a _ there) in (
      kept_nodes hd w (moves_keep hd r) a there,
      through (let u = a.uid in u.num) (length w.labels)
          (all_in (λ (b : Act). (let u = b.uid in u.num) ≤ length w.labels) (book w.lines).acts fit a i)
          (moves_labels hd r),
    )
  where
    through : (a b : ℕ) → a ≤ b → b ≤ most_labels → a ≤ most_labels
    through a b x y = omega (arith, x, y)
