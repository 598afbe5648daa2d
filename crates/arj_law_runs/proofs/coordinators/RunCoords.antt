-- What each coordinator keeps by itself, with good nodes, holds of all coordinators in every run.
use Rattle.arj_law_parts.proofs.Words
use Words.{◌≡◌, ◌∙◌, ◌+◌, ◌==◌, ◌&&◌, ℕ, Bool, true, false, cond, List, [], ◌∷◌, refl, sym, ap, subst, arith, Option, Some}
use Words.{None, Reply, again_all, begin_action, heard, Coord, Doing, new_coord, uid_at, Disk, Effect, Intent, Say, Send, Do}
use Words.{worked, stopped, acked, tick_outs, Parts, Took, handle, with_coord, Input, Node, acts, begin_refusal}
use Words.{parent_of, parts_in, refusal_up, restart_outs, Tree, at_place, Asked, Header, Kind, Label, Message, Uid, World}
use Words.{world_by, Seen, see, is_serial}
use Words.input
use Rattle.arj_law_runs.proofs.Terms
use Terms.{IsAtStarts, Run, AreNamed, HasNames, KnowsNames, names_kept, same_acked, same_acts, same_again, same_heard, Action, AreBegun}
use Terms.{MayBegin, paths_of}
use Terms.{IsGoodCoord, IsTree, Paths, IsNumbered, begun_tree, path_found, IsGood, IsMemory, IsUp, HasRoom, Holds, Keeps, is_act, at, given}
use Terms.{posted, said, up, Up, Walks, halted, keeps_asked, moves_asked, walks_both}
use Rattle.arj_law_parts.specs.told.Sends.{HasFewEnds}
use Rattle.arj_law_runs.proofs.coordinators
use coordinators.{NewNames.names_begin, NewNames.names_new, TreeRooms.room_new}
use coordinators.CoordRooms.{Room, room_acked, room_acts, room_again, room_begin, room_heard}
use Rattle.arj_law_runs.proofs.kept.{AllRuns.all_keep, Begins.may as may_begin, Handled.begun_of, Handled.it, Handled.one_agrees}
use Rattle.arj_law_runs.proofs.kept.{Starts.first_up, Handled.one_tree, Parted.IsLeft, Parted.coord_kept, Walked.other_number}
use Rattle.arj_law_runs.proofs.kept.{Walked.same_number}

-- What holds of a coordinator as it begins, and is kept by what it hears, does and begins.
pub record IsKept (Q : Coord → Type 0) : Type 0 where
  pub new : (node inc : ℕ) (telling : List (Uid × Intent)) → Q (record (new_coord node inc) { telling = telling })
  pub hears : (actions : List Action) (paths : Paths) (tree : IsTree paths) (from : ℕ) (a : Asked) (r : Reply)
      (intents : List (Uid × Intent)) (c : Coord) → IsGoodCoord actions paths c → Q c → Q (heard from a r intents c).part
  pub acks : (from : ℕ) (u : Uid) (intents : List (Uid × Intent)) (c : Coord) → Q c → Q (acked from u intents c).part
  pub does : (actions : List Action) (paths : Paths) (tree : IsTree paths) (intents : List (Uid × Intent)) (c : Coord) →
      IsGoodCoord actions paths c → Q c → (hd : Header) (i : Input) → refusal_up hd i c ≡ None
      → ((l : Label) (k : Kind) (parent : Option Label) → i ≡ input.Begin l k parent → ⊥) → Q (acts i intents c).part
  pub begins : (actions : List Action) → AreBegun actions → (paths : Paths) → IsTree paths → (l : Label) (k : Kind) (parent : Option Label)
      (c : Coord) → IsGoodCoord actions paths c → MayBegin actions k (parent_of parent c) → begin_refusal k c parent ≡ None
      → Q c → Q (begin_action l k parent (parent_of parent c) c).part
  pub asks : (ds : List Doing) (c : Coord) → Q c → Q (again_all ds c).part

module _ (Q : Coord → Type 0) (kept : IsKept Q) where
  -- it holds of each coordinator that is up
  abbrev pub AreSo : Seen → Type 0
  AreSo M = (j : ℕ) (n : Node) (t : Parts) → M.nodes j ≡ Some n → n.live ≡ Some t → Q t.coord

  -- and of each but that of this node
  abbrev OthersAreSo : ℕ → Seen → Type 0
  OthersAreSo k M = (j : ℕ) (n : Node) (t : Parts) → (j ≡ k → ⊥) → M.nodes j ≡ Some n → n.live ≡ Some t → Q t.coord

  -- ---- one node

  others : (k : ℕ) (d : Disk) (live : Option Parts) (M : Seen) → AreSo (at k d live M) → OthersAreSo k M
  others k d live M all j n t other is live_is =
      all j n t ((λ i. cond (other_number j k other i) (Some (record { number = k; disk = d; live = live })) (M.nodes j)) ∙ is) live_is

  own : (k : ℕ) (d : Disk) (t : Parts) (M : Seen) → AreSo (up k d t M) → Q t.coord
  own k d t M all = all k (record { number = k; disk = d; live = Some t }) t
      (λ i. cond (same_number k i) (Some (record { number = k; disk = d; live = Some t })) (M.nodes k)) refl

  back : (k : ℕ) (d : Disk) (live : Option Parts) (M : Seen) → ((t : Parts) → live ≡ Some t → Q t.coord) → OthersAreSo k M →
      AreSo (at k d live M)
  back k d live M its rest j n t is live_is = by (j == k) refl is
    where
      x : Node
      x = record { number = k; disk = d; live = live }

      by : (b : Bool) → (j == k) ≡ b → cond b (Some x) (M.nodes j) ≡ Some n → Q t.coord
      by true same there = let here : x ≡ n = cc in its t (ap (λ (m : Node). m.live) here ∙ live_is)
      by false apart there =
          rest j n t (λ same. let no_way : true ≡ false = sym (same_number k) ∙ ap (λ h. h == k) (sym same) ∙ apart in cc) there live_is

  down_so : (e k : ℕ) (d : Disk) (M : Seen) → OthersAreSo k M → AreSo (halted e k d M)
  down_so e k d M rest = back k d None M (λ t is. absurd (cc is)) rest

  -- whatever a node does, as long as it holds at the end
  walk : (e k : ℕ) (outs : List Effect) (v : Parts) (d : Disk) (M : Seen) → Q v.coord → OthersAreSo k M →
      Walks AreSo e k outs (Up AreSo k v) d M
  walk e k [] v d M its rest = back k d (Some v) M (λ t is. let same : v ≡ t = cc in subst (λ (x : Parts). Q x.coord) same its) rest
  walk e k (Do w ∷ es) v d M its rest = (λ how. down_so e k (stopped how w d) M rest, walk e k es v (worked w d) M its rest)
  walk e k (Say b ∷ es) v d M its rest = walk e k es v d (said e (b ∷ []) M) its rest
  walk e k (Send to m ∷ es) v d M its rest =
      λ more quiet. walk e k es v d (said e more (posted (record { from = k; to = to; message = m }) M)) its rest

  -- ---- runs

  abbrev pub IsSo : Seen → Type 0
  IsSo M = IsGood M × AreSo M

  both : (e k : ℕ) (outs : List Effect) (v : Parts) (d : Disk) (M : Seen) → Walks IsGood e k outs (Up IsGood k v) d M →
      Walks AreSo e k outs (Up AreSo k v) d M → Walks IsSo e k outs (Up IsSo k v) d M
  both e k outs v d M a b = walks_both IsGood AreSo e k outs (Up IsGood k v) (Up AreSo k v) d M a b

  module _ (e k : ℕ) (d : Disk) (t : Parts) (M : Seen) (good : IsGood (up k d t M)) where
    coord_of : IsGoodCoord good.0 (paths_of good.0) t.coord
    coord_of = let n = (it e k d t M good).good (paths_of good.0) (one_tree e k d t M good) (one_agrees e k d t M good) in n.coord

    handled : (v : Parts) (from : ℕ) (m : Message) (outs : List Effect) → Q t.coord → handle k d t from m ≡ Took v outs → Q v.coord
    handled v from m outs its is = subst (IsLeft Q) is (coord_kept Q k d t from its
        (λ a r. kept.hears good.0 (paths_of good.0) (one_tree e k d t M good) from a r d.intents t.coord coord_of its)
        (λ u. kept.acks from u d.intents t.coord its) m)

  first_so : (hd : Header) → IsAtStarts hd AreSo
  first_so hd st formed j n t is live =
      subst (λ (x : Parts). Q x.coord) (first_up hd st j n t is live) (kept.new j (st.incs j + 1) [])

  acted : (i : Input) → is_act i ≡ true → (l : Label) (k : Kind) (parent : Option Label) → i ≡ input.Begin l k parent → ⊥
  acted i is l k parent same = let no_way : false ≡ true = ap is_act (sym same) ∙ is in absurd (cc no_way)

  pub all_keep_so : (hd : Header) → Keeps hd IsSo
  all_keep_so hd = record {
    quiet = λ e bs M quiet all. (keep.quiet e bs M quiet all.0, all.1);
    stop = λ e k d live M all. (keep.stop e k d live M all.0, down_so e k d M (others k d live M all.1));
    message = λ e k d t v from m outs M all there meant is.
        both e k outs v d M (keep.message e k d t v from m outs M all.0 there meant is)
        (walk e k outs v d M (handled e k d t M all.0 v from m outs (own k d t M all.1) is) (others k d (Some t) M all.1));
    act = λ e k d t i M is none all.
        let did = acts i d.intents t.coord in
        both e k did.outs (with_coord t did.part) d M (keep.act e k d t i M is none all.0)
        (walk e k did.outs (with_coord t did.part) d M (kept.does all.0.0 (paths_of all.0.0) (one_tree e k d t M all.0) d.intents t.coord
        (coord_of e k d t M all.0) (own k d t M all.1) hd i none (acted i is)) (others k d (Some t) M all.1));
    begin = λ e k d t l how parent M new may none all.
        let did = begin_action l how parent (parent_of parent t.coord) t.coord in
        let N = given l (record { node = k; serial = is_serial how }) M in
        both e k did.outs (with_coord t did.part) d N (keep.begin e k d t l how parent M new may none all.0)
        (walk e k did.outs (with_coord t did.part) d N (kept.begins all.0.0 (begun_of e k d t M all.0) (paths_of all.0.0)
        (one_tree e k d t M all.0) l how parent t.coord (coord_of e k d t M all.0) (may_begin e k d t l how parent M new may none all.0)
        none (own k d t M all.1)) (others k d (Some t) M all.1));
    tick = λ e k d t M all.
        let outs = tick_outs (record { number = k; disk = d; live = Some t }) t in
        let v = with_coord t (again_all t.coord.doings t.coord).part in
        both e k outs v d M (keep.tick e k d t M all.0)
        (walk e k outs v d M (kept.asks t.coord.doings t.coord (own k d t M all.1)) (others k d (Some t) M all.1));
    restart = λ e k d M all.
        let outs = restart_outs hd k (d.inc + 1) d in
        let v = parts_in k (d.inc + 1) d in
        both e k outs v d M (keep.restart e k d M all.0) (walk e k outs v d M (kept.new k (d.inc + 1) d.intents) (others k d None M all.1));
    first = λ st formed. (keep.first st formed, first_so hd st formed);
  }
    where
      keep : Keeps hd IsGood
      keep = all_keep hd

  pub runs_so : (hd : Header) (r : Run hd) (k : ℕ) (n : Node) (t : Parts) → at_place k (let w = world_by hd r in w.nodes) ≡ Some n →
      n.live ≡ Some t → Q t.coord
  runs_so hd r k n t is live = let h = moves_asked hd IsSo (keeps_asked hd IsSo (all_keep_so hd)) r in let all = h.holds in
      all.1 k n t is live

-- ---- room

rooms_kept : IsKept Room
rooms_kept = record {
  new = λ node inc telling. room_new node inc;
  hears = λ actions paths tree from a r intents c good room. room_heard actions paths tree from a r intents c good room;
  acks = room_acked;
  does = λ actions paths tree intents c good room hd i none other. room_acts actions paths tree intents c good room hd i none other;
  begins = λ actions begun paths tree l k parent c good may none room. room_begin actions begun paths tree l k parent c good may none room;
  asks = room_again;
}

pub trees_room : (hd : Header) (r : Run hd) (k : ℕ) (n : Node) (t : Parts) → at_place k (let w = world_by hd r in w.nodes) ≡ Some n →
    n.live ≡ Some t → HasRoom t.coord.tree
trees_room hd r k n t is live = runs_so Room rooms_kept hd r k n t is live

-- room is for few ends
pub few_ends : (t : Tree) → HasRoom t → HasFewEnds t
few_ends t room root = let e = room.ends root.num in let a = room.actions root.num in omega (arith, e, a)

-- ---- labels

pub names_are_kept : IsKept HasNames
names_are_kept = record {
  new = names_new;
  hears =
      λ actions paths tree from a r intents c good has. names_kept c (heard from a r intents c).part (same_heard from a r intents c) has;
  acks = λ from u intents c has. names_kept c (acked from u intents c).part (same_acked from u intents c) has;
  does = λ actions paths tree intents c good has hd i none other. names_kept c (acts i intents c).part (same_acts i intents c other) has;
  begins = λ actions begun paths tree l k parent c good may none has. names_begin l k parent c has;
  asks = λ ds c has. names_kept c (again_all ds c).part (same_again ds c) has;
}

-- the place of an action's number, where nodes are good
module _ (k : ℕ) (n : Node) (t : Parts) (M : Seen) (all : IsSo HasNames names_are_kept M) (at_k : M.nodes k ≡ Some n)
    (live : n.live ≡ Some t) where
  its : IsUp all.0.0 M.sent M.labels k n.disk.inc t
  its = let good = all.0 in let world = good.1 in let place = world.places k n at_k in
      subst (IsMemory good.0 M.sent M.labels k n.disk.inc) live place.memory

  knows_names : KnowsNames t.coord
  knows_names = record {
    names = all.1 k n t at_k live;
    places = λ j b at.
        let good = all.0 in
        let world = good.1 in
        let node = its.good (paths_of good.0) (begun_tree good.0 world.begun) (path_found good.0 world.begun) in
        let tree = node.coord.tree in
        tree.lists.places (uid_at j t.coord) b
        ((λ i. cond (same_number t.coord.tree.node i && same_number t.coord.tree.inc i) (at_place j t.coord.tree.branches) None) ∙ at);
    waits = λ u d m found is. (subst (IsNumbered d.req) is (its.numbered u d found)).1.1;
  }

-- whatever keeps what each handler keeps
pub keeps_names : (hd : Header) → Keeps hd (IsSo HasNames names_are_kept)
keeps_names hd = all_keep_so HasNames names_are_kept hd

pub holds_named : (hd : Header) (w : World) → Holds hd (IsSo HasNames names_are_kept) w → AreNamed w
holds_named hd w h k n t is live = knows_names k n t (see h.sent w) h.holds is live

pub labels_named : (hd : Header) (r : Run hd) → AreNamed (world_by hd r)
labels_named hd r = holds_named hd (world_by hd r)
    (moves_asked hd (IsSo HasNames names_are_kept) (keeps_asked hd (IsSo HasNames names_are_kept) (keeps_names hd)) r)
