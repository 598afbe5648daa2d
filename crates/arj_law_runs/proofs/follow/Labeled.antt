-- Each action of a coordinator is found by its label.
use Rattle.arj_law_parts.proofs.Words
use Words.{◌≡◌, ◌∙◌, ◌+◌, ◌==◌, ◌&&◌, ℕ, zero, suc, Bool, true, false, cond, List, [], ◌∷◌, ◌++◌, length, map, refl, sym, ap, subst, arith}
use Words.{Option, Some}
use Words.{None, bytes_eq-Decides, ⊎_elim, slice_get, is_at, is_eq, lookup, length-map, map-append, Label, label_cmp, name, again_all}
use Words.{begin_action, Coord, Doing, Idle}
use Words.{number_of, uid_at, Disk, Do, Effect, Say, Send, worked, stopped, Parts, tick_outs, with_coord, Input, Node, acts}
use Words.{parent_of, parts_in, restart_outs, at_place, Header, Kind, Uid, Seen, is_serial, heard, acked}
use Words.input
use Rattle.arj_law_runs.proofs.Terms
use Terms.{Keeps, at, given, posted, said, up, Up, Walks, halted, walks_both, act_in, book, IsKept, IsWritten, is_act, same_acked}
use Terms.{Act, disk_by, same_acts, same_again, same_heard, same_key, label_at}
use Rattle.arj_law_parts.proofs.steps.CoordNames.{SameNames}
use Rattle.arj_law_parts.specs.steps.Named.{names_of}
use Rattle.arj_law_runs.proofs.journal.Begun.{new_label, place_cases}
use Rattle.arj_law_runs.proofs.journal.Runs.{knows_up, lines_keep, works}
use Rattle.arj_law_runs.proofs.kept.{Labels.one_name, Labels.put_label, Parted.IsLeft, Parted.coord_kept, Starts.first_up}
use Rattle.arj_law_runs.proofs.kept.{Walked.other_number}
use Rattle.arj_law_runs.proofs.kept.{Walked.same_number}

-- ---- one coordinator

-- each label of its actions is that of the action's number
abbrev pub FindsAll : Coord → Type 0
FindsAll c = (j : ℕ) (m : Label) → at_place j (names_of c) ≡ Some m → number_of m c ≡ Some j

finds_same : (c e : Coord) → SameNames c e → FindsAll c → FindsAll e
finds_same c e s finds j m is =
    ap (λ ls. lookup (is_at (label_cmp m)) ls) s.labels ∙ finds j m (sym (ap (at_place j) s.names) ∙ is)

finds_new : (c : Coord) → c.doings ≡ [] → FindsAll c
finds_new c none j m is = absurd (by j (sym (ap (λ (ds : List Doing). at_place j (map (λ (d : Doing). d.label) ds)) none) ∙ is))
  where
    by : (i : ℕ) → at_place i [] ≡ Some m → ⊥
    by zero no_way = cc
    by (suc i) no_way = cc

-- an action begins with a label that none of them has
finds_begin : (l : Label) (k : Kind) (parent : Option Label) (c : Coord) → length c.doings ≡ length c.tree.branches →
    ((j : ℕ) (m : Label) → at_place j (names_of c) ≡ Some m → name m ≡ name l → ⊥) → FindsAll c →
    FindsAll (begin_action l k parent (parent_of parent c) c).part
finds_begin l k parent c works apart finds j m is = ⊎_elim old new (place_cases (names_of c) l m j (sym (ap (at_place j) names) ∙ is))
  where
    fresh : Doing
    fresh = record { label = l; req = 0; now = Idle; took = [] }

    next : ℕ
    next = length c.tree.branches + 1

    names : map (λ (d : Doing). d.label) (c.doings ++ fresh ∷ []) ≡ names_of c ++ l ∷ []
    names = map-append (λ (d : Doing). d.label) c.doings (fresh ∷ [])

    old : at_place j (names_of c) ≡ Some m → number_of m (begin_action l k parent (parent_of parent c) c).part ≡ Some j
    old there = put_label m l next c.labels ∙ by (is_eq (label_cmp m l)) refl
      where
        by : (b : Bool) → is_eq (label_cmp m l) ≡ b → cond b (Some next) (number_of m c) ≡ Some j
        by true same = absurd (apart j m there (one_name m l same))
        by false other = finds j m there

    new : (j ≡ suc (length (names_of c))) × (l ≡ m) → number_of m (begin_action l k parent (parent_of parent c) c).part ≡ Some j
    new (at_end, same) = put_label m l next c.labels ∙ by (is_eq (label_cmp m l)) refl
      where
        itself : is_eq (label_cmp l l) ≡ true
        itself = same_key l l ∙ (bytes_eq-Decides (name l) (name l)).1 refl

        long : length (names_of c) ≡ length c.doings
        long = length-map c.doings (λ (d : Doing). d.label)

        place : next ≡ j
        place = omega (arith, at_end, long, works)

        by : (b : Bool) → is_eq (label_cmp m l) ≡ b → cond b (Some next) (number_of m c) ≡ Some j
        by true here = ap Some place
        by false other =
            let no_way : true ≡ false = sym itself ∙ ap (λ x. is_eq (label_cmp x l)) same ∙ other in absurd (cc no_way)

-- the action at work that has a label
pub label_there : (ds : List Doing) (j : ℕ) (m : Label) → at_place j (map (λ (d : Doing). d.label) ds) ≡ Some m →
    (q : Doing) × (at_place j ds ≡ Some q) × (q.label ≡ m)
label_there ds zero m is = let no_way : ◌≡◌ {A = Option Label} None (Some m) = is in absurd (cc no_way)
label_there ds (suc i) m is = by ds i is
  where
    by : (xs : List Doing) (i : ℕ) → slice_get (map (λ (d : Doing). d.label) xs) i ≡ Some m →
        (q : Doing) × (slice_get xs i ≡ Some q) × (q.label ≡ m)
    by [] i no_way = let none : ◌≡◌ {A = Option Label} None (Some m) = no_way in absurd (cc none)
    by (x ∷ xs) zero here = let same : x.label ≡ m = cc in (x, refl, same)
    by (x ∷ xs) (suc i) there = by xs i there

pub place_there : {A B : Type 0} (xs : List A) (ys : List B) (j : ℕ) (x : A) → length xs ≡ length ys → at_place j xs ≡ Some x →
    (y : B) × (at_place j ys ≡ Some y)
place_there {A} xs ys zero x long is = let no_way : ◌≡◌ {A = Option A} None (Some x) = is in absurd (cc no_way)
place_there {A} {B} xs ys (suc i) x long is = by xs ys i long is
  where
    shorter : (m n : ℕ) → suc m ≡ suc n → m ≡ n
    shorter m n is = omega (arith, is)

    by : (zs : List A) (ws : List B) (i : ℕ) → length zs ≡ length ws → slice_get zs i ≡ Some x → (y : B) × (slice_get ws i ≡ Some y)
    by [] ws i same is = let no_way : ◌≡◌ {A = Option A} None (Some x) = is in absurd (cc no_way)
    by (z ∷ zs) [] i same is = absurd (cc same)
    by (z ∷ zs) (w ∷ ws) zero same is = (w, refl)
    by (z ∷ zs) (w ∷ ws) (suc i) same is = by zs ws i (shorter (length zs) (length ws) same) is

-- ---- all of them

abbrev pub FindLabels : Seen → Type 0
FindLabels M = (j : ℕ) (n : Node) (t : Parts) → M.nodes j ≡ Some n → n.live ≡ Some t → FindsAll t.coord

abbrev Others : ℕ → Seen → Type 0
Others k M = (j : ℕ) (n : Node) (t : Parts) → (j ≡ k → ⊥) → M.nodes j ≡ Some n → n.live ≡ Some t → FindsAll t.coord

others : (k : ℕ) (d : Disk) (live : Option Parts) (M : Seen) → FindLabels (at k d live M) → Others k M
others k d live M all j n t other is live_is =
    all j n t ((λ i. cond (other_number j k other i) (Some (record { number = k; disk = d; live = live })) (M.nodes j)) ∙ is) live_is

own : (k : ℕ) (d : Disk) (t : Parts) (M : Seen) → FindLabels (up k d t M) → FindsAll t.coord
own k d t M all = all k (record { number = k; disk = d; live = Some t }) t
    (λ i. cond (same_number k i) (Some (record { number = k; disk = d; live = Some t })) (M.nodes k)) refl

back : (k : ℕ) (d : Disk) (live : Option Parts) (M : Seen) → ((t : Parts) → live ≡ Some t → FindsAll t.coord) → Others k M →
    FindLabels (at k d live M)
back k d live M its rest j n t is live_is = by (j == k) refl is
  where
    x : Node
    x = record { number = k; disk = d; live = live }

    by : (b : Bool) → (j == k) ≡ b → cond b (Some x) (M.nodes j) ≡ Some n → FindsAll t.coord
    by true same there = let here : x ≡ n = cc in its t (ap (λ (m : Node). m.live) here ∙ live_is)
    by false apart there =
        rest j n t (λ same. let no_way : true ≡ false = sym (same_number k) ∙ ap (λ h. h == k) (sym same) ∙ apart in cc) there live_is

down_so : (e k : ℕ) (d : Disk) (M : Seen) → Others k M → FindLabels (halted e k d M)
down_so e k d M rest = back k d None M (λ t is. absurd (cc is)) rest

walk : (e k : ℕ) (outs : List Effect) (v : Parts) (d : Disk) (M : Seen) → FindsAll v.coord → Others k M →
    Walks FindLabels e k outs (Up FindLabels k v) d M
walk e k [] v d M its rest = back k d (Some v) M (λ t is. let same : v ≡ t = cc in subst (λ (x : Parts). FindsAll x.coord) same its) rest
walk e k (Do w ∷ es) v d M its rest = (λ how. down_so e k (stopped how w d) M rest, walk e k es v (worked w d) M its rest)
walk e k (Say b ∷ es) v d M its rest = walk e k es v d (said e (b ∷ []) M) its rest
walk e k (Send to m ∷ es) v d M its rest =
    λ more quiet. walk e k es v d (said e more (posted (record { from = k; to = to; message = m }) M)) its rest

abbrev pub KnowsFinds : Seen → Type 0
KnowsFinds M = IsKept M × FindLabels M

both : (e k : ℕ) (outs : List Effect) (v : Parts) (d : Disk) (M : Seen) → Walks IsKept e k outs (Up IsKept k v) d M →
    Walks FindLabels e k outs (Up FindLabels k v) d M → Walks KnowsFinds e k outs (Up KnowsFinds k v) d M
both e k outs v d M a b = walks_both IsKept FindLabels e k outs (Up IsKept k v) (Up FindLabels k v) d M a b

-- a new label is none of those
apart_label : (e k : ℕ) (d : Disk) (t : Parts) (M : Seen) → IsKept (up k d t M) → (l : Label) → label_at l M.labels ≡ None →
    (j : ℕ) (m : Label) →
    at_place j (names_of t.coord) ≡ Some m → name m ≡ name l → ⊥
apart_label e k d t M all l new j m is same =
    let written : IsWritten (up k d t M) = all.1 in
    let q = label_there t.coord.doings j m is in
    let b = place_there t.coord.doings t.coord.tree.branches j q.0 (works e k d t M all.0 all.1) q.1 in
    let u : Uid = uid_at j t.coord in
    let here : ((t.coord.tree.node == t.coord.tree.node) && (t.coord.tree.inc == t.coord.tree.inc)) ≡ true
    = λ i. same_number t.coord.tree.node i && same_number t.coord.tree.inc i in
    let up_now = knows_up e k d t M all.0 all.1 in
    let known = up_now.knows.acts u b.0 q.0 ((λ i. cond (here i) (at_place j t.coord.tree.branches) None) ∙ b.1)
    ((λ i. cond (here i) (at_place j t.coord.doings) None) ∙ q.1) in
    let none = new_label M.labels (let B = book M.lines in B.acts) l new written.labels in
    let no_way : ◌≡◌ {A = Option Act} (Some known.act) None = sym known.named
    ∙ ap (act_in (let B = book M.lines in B.acts)) (ap name q.2 ∙ same) ∙ none in
    cc

begins_no : (i : Input) → is_act i ≡ true → (l : Label) (k : Kind) (parent : Option Label) → i ≡ input.Begin l k parent → ⊥
begins_no i is l k parent same = let no_way : false ≡ true = ap is_act (sym same) ∙ is in absurd (cc no_way)

pub finds_keep : (hd : Header) → Keeps hd KnowsFinds
finds_keep hd = record {
  quiet = λ e bs M quiet all. (keep.quiet e bs M quiet all.0, all.1);
  stop = λ e k d live M all. (keep.stop e k d live M all.0, down_so e k d M (others k d live M all.1));
  message = λ e k d t v from m outs M all there meant is.
      let its = own k d t M all.1 in
      both e k outs v d M (keep.message e k d t v from m outs M all.0 there meant is)
      (walk e k outs v d M (subst (IsLeft FindsAll) is (coord_kept FindsAll k d t from its
      (λ a r. finds_same t.coord (heard from a r d.intents t.coord).part (same_heard from a r d.intents t.coord) its)
      (λ u. finds_same t.coord (acked from u d.intents t.coord).part (same_acked from u d.intents t.coord) its) m))
      (others k d (Some t) M all.1));
  act = λ e k d t i M is none all.
      let did = acts i d.intents t.coord in
      both e k did.outs (with_coord t did.part) d M (keep.act e k d t i M is none all.0)
      (walk e k did.outs (with_coord t did.part) d M
      (finds_same t.coord did.part (same_acts i d.intents t.coord (begins_no i is)) (own k d t M all.1)) (others k d (Some t) M all.1));
  begin = λ e k d t l how parent M new may none all.
      let did = begin_action l how parent (parent_of parent t.coord) t.coord in
      let N = given l (record { node = k; serial = is_serial how }) M in
      both e k did.outs (with_coord t did.part) d N (keep.begin e k d t l how parent M new may none all.0)
      (walk e k did.outs (with_coord t did.part) d N (finds_begin l how parent t.coord (works e k d t M all.0.0 all.0.1)
      (apart_label e k d t M all.0 l new) (own k d t M all.1)) (others k d (Some t) M all.1));
  tick = λ e k d t M all.
      let outs = tick_outs (record { number = k; disk = d; live = Some t }) t in
      let r = again_all t.coord.doings t.coord in
      both e k outs (with_coord t r.part) d M (keep.tick e k d t M all.0)
      (walk e k outs (with_coord t r.part) d M (finds_same t.coord r.part (same_again t.coord.doings t.coord) (own k d t M all.1))
      (others k d (Some t) M all.1));
  restart = λ e k d M all. both e k (restart_outs hd k (d.inc + 1) d) (parts_in k (d.inc + 1) d) d M (keep.restart e k d M all.0)
      (walk e k (restart_outs hd k (d.inc + 1) d) (parts_in k (d.inc + 1) d) d M
      (finds_new (let p = parts_in k (d.inc + 1) d in p.coord) refl) (others k d None M all.1));
  first = λ st formed. (
    keep.first st formed,
    λ j n t is live.
        subst (λ (x : Parts). FindsAll x.coord) (first_up hd st j n t is live) (finds_new (let p = parts_in j (st.incs j + 1)
        (disk_by hd st j) in p.coord) refl),
  );
}
  where
    keep : Keeps hd IsKept
    keep = lines_keep hd
