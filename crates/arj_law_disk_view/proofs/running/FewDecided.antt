-- Few tops are decided where few labels were given, so that versions are short; and it is kept along a step that each decided top had its
-- commit called.
use Rattle.arj_law_parts.proofs.Words
use Words.{Start, ◌≡◌, ◌⊎◌, ◌≤◌, ◌<◌, ◌+◌, ◌==◌, ◌||◌, ℕ, suc, List, [], ◌∷◌, ◌++◌, Bool, true, false, cond, Option, Some, None, refl, sym}
use Words.{◌∙◌}
use Words.{ap, subst, inl, inr, ⊎_elim, arith, length, AllByRecursion, list_any, is_eq, uid_is, is_on, Label, Line, Body, Uid, label_cmp}
use Words.{name, uid_eq, Disk, Do, Effect, Say, Send, worked, Parts, uid_number, Labelled, numbered, bytes_eq-Decides, ⊤}
use Words.{unwrap_or, Seen, most_labels}
use Words.list
use Words.body
use Rattle.arj_law_disk_view.proofs.Terms
use Terms.{Act, bytes_eq, Chain, History, Whole, Office, Done, Known, KnownIn, Packed, decided, decided_in, last_in, State, In, never}
use Terms.{or_cases, or_left, test_same, label_at, posted, said, Up, Walks, KnowsKinds, IsLater, Kinds, SeesBoth, book, new_book, IsWritten}
use Terms.{has_act, Sane, sane_lines, sane_new, is_sound, HasFewLabels, AreOnce, NewTops, SeesDecided}
use Rattle.arj_law_disk.proofs.machine.History.{in_decided}
use Rattle.arj_law_disk_view.proofs.running.Grows.{called_later, in_both}
use Rattle.arj_law_disk_view.specs.running.Decided.{IsPastNumber, most_version}
use Rattle.arj_law_runs.proofs.kept.Labels.{one_name}
use Rattle.arj_law_runs.specs.journal.{Knows.IsGiven, Laws.AreDistinct, Laws.IsSound}
use Rattle.arj_model.specs.Actions.{act_in}

-- ---- no more than places

-- a list without one of its values
record Without {Y : Type 0} (y : Y) (ys : List Y) : Type 0 where
  rest : List Y
  long : length ys ≡ suc (length rest)
  others : (z : Y) → list.In z ys → (y ≡ z) ⊎ list.In z rest

without : {Y : Type 0} (y : Y) (ys : List Y) → list.In y ys → Without y ys
without y [] i = absurd i
without y (w ∷ ws) (inl same) =
    record { rest = ws; long = refl; others = λ z j. ⊎_elim (λ here. inl (sym same ∙ here)) (λ there. inr there) j }
without y (w ∷ ws) (inr i) =
    let r = without y ws i in
    record {
      rest = w ∷ r.rest;
      long = ap suc r.long;
      others = λ z j. ⊎_elim (λ here. inr (inl here)) (λ there. ⊎_elim (λ same. inl same) (λ k. inr (inr k)) (r.others z there)) j;
    }

module _ {X Y : Type 0} (M : X → Y → Type 0) where
  -- no two of them fit one place
  abbrev Apart : List X → Type 0
  Apart [] = ⊤
  Apart (x ∷ xs) = AllByRecursion (λ z. (y : Y) → M x y → M z y → ⊥) xs × Apart xs

  abbrev HavePlaces : List Y → List X → Type 0
  HavePlaces ys xs = AllByRecursion (λ x. (y : Y) × list.In y ys × M x y) xs

  places_left : (x : X) (y : Y) (ys : List Y) (w : Without y ys) → M x y → (xs : List X) →
      AllByRecursion (λ z. (y : Y) → M x y → M z y → ⊥) xs → HavePlaces ys xs → HavePlaces w.rest xs
  places_left x y ys w m [] off all = tt
  places_left x y ys w m (z ∷ zs) off all = (one all.0, places_left x y ys w m zs off.1 all.1)
    where
      one : (v : Y) × list.In v ys × M z v → (v : Y) × list.In v w.rest × M z v
      one (v, i, n) = ⊎_elim (λ same. absurd (off.0 y m (subst (M z) (sym same) n))) (λ left. (v, left, n)) (w.others v i)

  no_more : (xs : List X) (ys : List Y) → Apart xs → HavePlaces ys xs → length xs ≤ length ys
  no_more [] ys apart all = omega arith
  no_more (x ∷ xs) ys apart all =
      let p = all.0 in
      let w = without p.0 ys p.1 in
      longer (length xs) (length w.rest) (length ys) w.long (no_more xs w.rest apart.1 (places_left x p.0 ys w p.2 xs apart.0 all.1))
    where
      longer : (a b c : ℕ) → c ≡ suc b → a ≤ b → suc a ≤ c
      longer a b c is le = omega (arith, is, le)

-- ---- versions

last_low : (first : Packed) (ds : List Done) → Chain first ds → (last_in first ds).version ≤ first.version + length ds
last_low first [] c = omega arith
last_low first (d ∷ ds) c = by (last_low first ds c.1) d.plan.writes refl
  where
    by : (last_in first ds).version ≤ first.version + length ds → (o : Option Packed) → d.plan.writes ≡ o →
        (unwrap_or o (last_in first ds)).version ≤ first.version + suc (length ds)
    by ih None e = omega (arith, ih)
    by ih (Some w) e = omega (arith, ih, c.0 w e)

known_low : (first : Packed) (ds : List Done) → Chain first ds → (g : Packed) → KnownIn first ds g → g.version ≤ first.version + length ds
known_low first [] c g is = let e : first.version ≡ g.version = ap (λ (p : Packed). p.version) is in omega (arith, e)
known_low first (d ∷ ds) c g (inl is) = let l = last_low first ds c.1 in let e = c.0 g is in omega (arith, l, e)
known_low first (d ∷ ds) c g (inr is) = let l = known_low first ds c.1 g is in omega (arith, l)

-- and an older one is lower yet
known_few : (S : State) → History S → (g : Packed) → Known S g → g.version ≤ S.first.version + length S.tops
known_few S its g (inl known) = known_low S.first S.tops its.chain g known
known_few S its g (inr old) = omega (arith, its.past.below g old)

-- ---- decided tops, actions and labels

-- an action has the top's number
abbrev IsOfTop : Done → Act → Type 0
IsOfTop d a = uid_number a.uid ≡ d.top

tops_apart : (ds : List Done) → AreOnce ds → Apart IsOfTop ds
tops_apart [] once = tt
tops_apart (d ∷ ds) once = (off ds once.0, tops_apart ds once.1)
  where
    off : (es : List Done) → decided_in es d.top ≡ false → AllByRecursion (λ (z : Done). (a : Act) → IsOfTop d a → IsOfTop z a → ⊥) es
    off [] undone = tt
    off (e ∷ es) undone = (
      (λ a one two. never
          (or_left (e.top == d.top) (decided_in es d.top) (subst (λ n. (n == d.top) ≡ true) (sym one ∙ two) (test_same d.top))) undone),
      off es (rest (e.top == d.top) (decided_in es d.top) undone),
    )
      where
        rest : (a b : Bool) → (a || b) ≡ false → b ≡ false
        rest true b is = absurd (cc is)
        rest false b is = is

act_there : (u : Uid) (acts : List Act) → has_act acts u ≡ true → (a : Act) × list.In a acts × (a.uid ≡ u)
act_there u [] on = absurd (cc on)
act_there u (a ∷ acts) on = ⊎_elim (λ here. (a, inl refl, uid_is a.uid u here)) (λ rest. let r = act_there u acts rest in
    (r.0, inr r.1, r.2)) (or_cases (uid_eq a.uid u) (list_any (λ (b : Act). uid_eq b.uid u) acts) on)

-- a label is that of the action
abbrev IsItsLabel : Act → Label × Labelled → Type 0
IsItsLabel a e = (l : Label) × (name l ≡ a.label) × (is_eq (label_cmp l e.0) ≡ true)

same_text : (w : List ℕ) → bytes_eq w w ≡ true
same_text w = (bytes_eq-Decides w w).1 refl

acts_apart : (acts : List Act) → AreDistinct acts → Apart IsItsLabel acts
acts_apart [] apart = tt
acts_apart (a ∷ older) apart = (off older apart.1, acts_apart older apart.3)
  where
    one_label : (z : Act) (e : Label × Labelled) → IsItsLabel a e → IsItsLabel z e → z.label ≡ a.label
    one_label z e (l, nl, on) (m, nm, om) = sym nm ∙ (one_name m e.0 om ∙ (sym (one_name l e.0 on) ∙ nl))

    off : (acts : List Act) → act_in acts a.label ≡ None →
        AllByRecursion (λ (z : Act). (e : Label × Labelled) → IsItsLabel a e → IsItsLabel z e → ⊥) acts
    off [] none = tt
    off (z ∷ zs) none = by (bytes_eq z.label a.label) refl none (off zs)
      where
        by : (b : Bool) → bytes_eq z.label a.label ≡ b → cond b (Some z) (act_in zs a.label) ≡ None →
            (act_in zs a.label ≡ None → AllByRecursion (λ (y : Act). (e : Label × Labelled) → IsItsLabel a e → IsItsLabel y e → ⊥) zs) →
            AllByRecursion (λ (y : Act). (e : Label × Labelled) → IsItsLabel a e → IsItsLabel y e → ⊥) (z ∷ zs)
        by true is found rest = absurd (cc found)
        by false is found rest =
            ((λ e one two. never (subst (λ w. bytes_eq w a.label ≡ true) (sym (one_label z e one two)) (same_text a.label)) is), rest found)

label_there : (l : Label) (labels : List (Label × Labelled)) (g : Labelled) → label_at l labels ≡ Some g →
    (e : Label × Labelled) × list.In e labels × (is_eq (label_cmp l e.0) ≡ true)
label_there l [] g is = absurd (cc is)
label_there l (e ∷ es) g is = by (is_eq (label_cmp l e.0)) refl is (label_there l es g)
  where
    by : (b : Bool) → is_eq (label_cmp l e.0) ≡ b → cond b (Some e.1) (label_at l es) ≡ Some g →
        (label_at l es ≡ Some g → (f : Label × Labelled) × list.In f es × (is_eq (label_cmp l f.0) ≡ true)) →
        (f : Label × Labelled) × list.In f (e ∷ es) × (is_eq (label_cmp l f.0) ≡ true)
    by true at found rest = (e, inl refl, at)
    by false at found rest = let r = rest found in (r.0, inr r.1, r.2)

labels_placed : (labels : List (Label × Labelled)) (acts : List Act) → AllByRecursion (IsGiven labels) acts →
    HavePlaces IsItsLabel labels acts
labels_placed labels [] all = tt
labels_placed labels (a ∷ acts) all =
    (let g = all.0 in let r = label_there g.0 labels g.1 g.3 in (r.0, r.1, (g.0, g.2, r.2)), labels_placed labels acts all.1)

module _ (x : ℕ) (tops : Kinds) (A : Office) (M : Seen) (both : SeesBoth x tops A M) (kinds : KnowsKinds tops)
    (its : SeesDecided x tops A M)
    (written : IsWritten M) where
  acts : List Act
  acts = (book M.lines).acts

  whole : Whole A.world
  whole = let s = both.disks in s.whole

  sound : IsSound M.lines
  sound = is_sound M.lines written.right

  sane : Sane (book M.lines)
  sane = sane_lines new_book M.lines written.right sane_new

  -- who is decided is a top, whose action is there
  top_placed : (d : Done) → In d A.world.disk.tops → (a : Act) × list.In a (book M.lines).acts × IsOfTop d a
  top_placed d i =
      let on : decided A.world.disk d.top ≡ true = in_decided A.world.disk.tops d i in
      let begun : A.world.disk.begun d.top ≡ true = (let c = whole.core in
      ⊎_elim (λ conf. c.fresh.conf d.top conf) (λ light. c.fresh.light d.top light) (c.coordinators.decided_taken d.top on)) in
      let u = kinds.named d.top ((let s = both.disks in s.kinds d.top begun).0) in
      let r = act_there u.0 (book M.lines).acts (sane.called u.0 (its.called d i u.0 u.1)) in
      (r.0, r.1, ap uid_number r.2 ∙ u.1)

  tops_placed : (ds : List Done) → ((d : Done) → In d ds → In d A.world.disk.tops) → HavePlaces IsOfTop (book M.lines).acts ds
  tops_placed [] there = tt
  tops_placed (d ∷ ds) there = (top_placed d (there d (inl refl)), tops_placed ds (λ e i. there e (inr i)))

  few_tops : length A.world.disk.tops ≤ length (book M.lines).acts
  few_tops = no_more IsOfTop A.world.disk.tops (book M.lines).acts (tops_apart A.world.disk.tops its.once)
      (tops_placed A.world.disk.tops (λ d i. i))

  few_acts : length (book M.lines).acts ≤ length M.labels
  few_acts = no_more IsItsLabel (book M.lines).acts M.labels (acts_apart (book M.lines).acts
      (subst AreDistinct (sym (let r = sound.reads in r.begun)) sound.distinct)) (labels_placed M.labels (book M.lines).acts written.labels)

  -- versions that were known are short
  pub known_short : HasFewLabels M → (g : Packed) → Known A.world.disk g → g.version < most_version
  known_short few g known = short (length A.world.disk.tops) (length (book M.lines).acts) (length M.labels) g.version
      A.world.disk.first.version (known_few A.world.disk (let c = whole.core in c.history) g known) its.short few_tops few_acts few
    where
      short : (a b c v f : ℕ) → v ≤ f + a → f + most_labels < most_version → a ≤ b → b ≤ c → c ≤ most_labels → v < most_version
      short a b c v f low room one two few = omega (arith, low, room, one, two, few)

-- ---- along a step

-- more lines, in the same run
abbrev pub HasMore : Seen → Seen → Type 0
HasMore M N = ((more : List Line) × (N.lines ≡ M.lines ++ more)) × (N.start ≡ M.start)

more_said : (M N : Seen) (e : ℕ) (bs : List Body) → HasMore M N → HasMore M (said e bs N)
more_said M N e bs ((more, is), same) =
    ((more ++ numbered e bs, ap (λ ls. ls ++ numbered e bs) is ∙ joined M.lines more (numbered e bs)), same)
  where
    joined : (xs ys zs : List Line) → (xs ++ ys) ++ zs ≡ xs ++ (ys ++ zs)
    joined [] ys zs = refl
    joined (w ∷ ws) ys zs = ap (λ vs. w ∷ vs) (joined ws ys zs)

pub more_walk : (M : Seen) (e k : ℕ) (outs : List Effect) (v : Parts) (d : Disk) (N : Seen) → HasMore M N →
    Walks (HasMore M) e k outs (Up (HasMore M) k v) d N
more_walk M e k [] v d N more = more
more_walk M e k (Do w ∷ es) v d N more = ((λ how. more_said M N e (body.Halted k ∷ []) more), more_walk M e k es v (worked w d) N more)
more_walk M e k (Say b ∷ es) v d N more = more_walk M e k es v d (said e (b ∷ []) N) (more_said M N e (b ∷ []) more)
more_walk M e k (Send to m ∷ es) v d N more = λ bs quiet. more_walk M e k es v d (said e bs
    (posted (record { from = k; to = to; message = m }) N)) (more_said M (posted (record { from = k; to = to; message = m }) N) e bs more)

-- from one state to the next
pub decided_on : (x : ℕ) (tops : Kinds) (A B : Office) (M N : Seen) → SeesDecided x tops A M → IsLater A.world B.world →
    NewTops A.world B.world M.lines → HasMore M N → SeesDecided x tops B N
decided_on x tops A B M N p later n ((more, is), same) = record {
  writer = ap (λ (g : Packed). g.writer) later.first ∙ p.writer
      ∙ ap (λ (st : Start). uid_number (let m = st.marks.states x in m.writer)) (sym same);
  short = subst (λ (g : Packed). g.version + most_labels < most_version) (sym later.first) p.short;
  past = λ g i. subst (λ (st : Start). IsPastNumber st g.writer) (sym same)
      (p.past g (subst (In g) (λ j. later.first j ∷ later.past j) i));
  once = n.once p.once;
  called = λ d i u ud. subst (λ ls. is_on (book ls).called u ≡ true) (sym is) (called_later M.lines more u
      (⊎_elim (λ a. n.called d a u ud) (λ b. p.called d b u ud) (in_both d n.new A.world.disk.tops (subst (In d) n.are i))));
}
