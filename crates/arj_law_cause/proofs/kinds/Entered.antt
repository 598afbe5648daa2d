-- Each entry that is prepared on a disk is of an object of which its top has excluded a store, or of which an include of the top that
-- survives names one: by the lines that stood as its Confirm came.
use Rattle.arj_law_parts.proofs.Words
use Words.{◌≡◌, ◌⊎◌, ◌∙◌, ◌==◌, ◌&&◌, ◌+◌, ◌++◌, ℕ, Bool, true, false, cond, List, [], ◌∷◌, filter, Option, Some, None, refl, sym, ap}
use Words.{⊎_elim, match_ordering, Ordering, Less, Equal, Greater, AllByRecursion, append_assoc, cons_option, eqb-true, find, option_map}
use Words.{In, in_filter, in_find, in_from, in_map, is_serial, numbered, Disk, Do, Effect, Entry, Grants, Head, Header, Kind, Line, Marks}
use Words.{ObjectState, Pair, Parts, Path, Post, Say, Seen, Send, Stop, Uid, Work, actor, asks, entry, entries_after, entry_after}
use Words.{entry_state, held_at, marked, put_uid, same_nodes, state_entry, stopped, stores_after, top_of, uid_eq, uid_is, uid_order}
use Words.{with_stores, without_stores, worked, Abort, After, Before, Commit, InPart, Look, Prepare, PutInc, PutIntent, RemoveIntent, Node}
use Words.{again_all, begin_action, acts as acts_of, acts_own, parent_of, parts_in, restart_outs, tick_outs, with_coord, either}
use Words.{same_number, subst, inl, inr}
use Words.ask
use Words.body
use Words.kind
use Words.role
use Rattle.arj_law_parts.proofs.moves.EachNode as at_each
use Rattle.arj_law_disk_view.proofs.running.Lists.{all_each}
use Rattle.arj_law_lock_view.proofs.asking.Tied.{Pathed}
use Rattle.arj_law_parts.proofs.parts.Keys.{order_exact}
use Rattle.arj_law_parts.specs.moves.Seen as seen
use Rattle.arj_law_parts.specs.parts.Messages.{FitsAsked, IsAsker}
use Rattle.arj_law_promise.proofs.Terms
use Terms.{Keeps, Up, Walks, first_at, given, posted, said, up, walks_both}
use Rattle.arj_law_promise.specs.settling.Prepared.{AsksForItself}
use Rattle.arj_law_runs.proofs.Terms.{Action}
use Rattle.arj_law_runs.proofs.addresses.Lists.{all_without}
use Rattle.arj_law_runs.proofs.calls.Given.{keeps_given, kept_both}
use Rattle.arj_law_runs.proofs.journal.{Closed.one_act, Models.its_sound, Paths.paths_keep}
use Rattle.arj_law_runs.specs.journal.{Book.new_book, Right.AreRight}
use Rattle.arj_law_runs.specs.kept.Worlds.{IsGoodOf}
use Rattle.arj_law_serial.proofs.Terms as serial
use serial.{Act, AreAlike, acts, path, act_of, its_acts}
use Rattle.arj_law_serial.proofs.tables.Holders.{path_fits}
use Rattle.arj_model.specs.CauseSpans.{is_top_in}
use Rattle.arj_model.specs.Last.{is_among, joins_of, leaves_of}
use Rattle.arj_protocol.specs.Confirm.{pending_of}
use Rattle.arj_law_cause.proofs.kinds.Asking.{AskSo, AsksAreSo, Stood, asking_keep}
use Rattle.arj_law_cause.proofs.kinds.Tops.{HasTopPath, IsTopBy, is_top_by}
use Rattle.arj_law_cause.proofs.rows.Holders.{alike_to}
use Rattle.arj_law_cause.proofs.spelled.Entering as entering

-- ---- what is known of a top

-- it has excluded a store of the object, or an include of it that survives names one
abbrev pub ChangesList : List Line → ℕ → ℕ → Type 0
ChangesList lines id x =
    ((s : ℕ) × (is_among (leaves_of lines id x) s ≡ true)) ⊎ ((s : ℕ) × (is_among (joins_of lines id x) s ≡ true))

-- so it was by some first lines, of a top with this Uid
pub record IsFor (lines : List Line) (u : Uid) (x : ℕ) : Type 0 where
  pub first : List Line
  pub more : List Line
  pub are : lines ≡ first ++ more
  pub top : Act
  pub there : In top (acts first)
  pub uid : top.uid ≡ u
  pub is_top : is_top_in top (path (acts first) top.label) ≡ true
  pub changes : ChangesList first top.id x

for_later : (ls ms : List Line) (u : Uid) (x : ℕ) → IsFor ls u x → IsFor (ls ++ ms) u x
for_later ls ms u x f = record {
  first = f.first;
  more = f.more ++ ms;
  are = ap (λ zs. zs ++ ms) f.are ∙ append_assoc f.first f.more ms;
  top = f.top;
  there = f.there;
  uid = f.uid;
  is_top = f.is_top;
  changes = f.changes;
}

-- ---- on disks

-- it is so of each of these entries
abbrev pub AreFor : List Line → Uid → List ObjectState → Type 0
AreFor lines u states = AllByRecursion (λ (st : ObjectState). IsFor lines u st.uid.num) states

-- and of each that is prepared on the disk
abbrev pub OnDisk : List Line → Disk → Type 0
OnDisk lines d = AllByRecursion (λ (e : Uid × List ObjectState). AreFor lines e.0 e.1) (let z = d.names in z.pend)

abbrev HasFor : List Line → Node → Type 0
HasFor lines n = OnDisk lines n.disk

abbrev pub EntriesAreFor : Seen → Type 0
EntriesAreFor M = at_each.Each (HasFor M.lines) M

are_later : (ls ms : List Line) (u : Uid) (states : List ObjectState) → AreFor ls u states → AreFor (ls ++ ms) u states
are_later ls ms u states all = all_each (λ (st : ObjectState). IsFor ls u st.uid.num) (λ (st : ObjectState). IsFor (ls ++ ms) u st.uid.num)
    states (λ st f. for_later ls ms u st.uid.num f) all

disk_later : (ls ms : List Line) (d : Disk) → OnDisk ls d → OnDisk (ls ++ ms) d
disk_later ls ms d all = all_each (λ (e : Uid × List ObjectState). AreFor ls e.0 e.1)
    (λ (e : Uid × List ObjectState). AreFor (ls ++ ms) e.0 e.1) (let z = d.names in z.pend) (λ e f. are_later ls ms e.0 e.1 f) all

others_later : (k : ℕ) (ls ms : List Line) (M : Seen) → at_each.EachBut (HasFor ls) k M → at_each.EachBut (HasFor (ls ++ ms)) k M
others_later k ls ms M all j n apart is = disk_later ls ms n.disk (all j n apart is)

-- ---- work

put_for : (lines : List Line) (u : Uid) (states : List ObjectState) (m : List (Uid × List ObjectState)) → AreFor lines u states →
    AllByRecursion (λ (e : Uid × List ObjectState). AreFor lines e.0 e.1) m →
    AllByRecursion (λ (e : Uid × List ObjectState). AreFor lines e.0 e.1) (put_uid u states m)
put_for lines u states [] its all = (its, tt)
put_for lines u states (e ∷ es) its all = by (uid_order u e.0) refl (put_for lines u states es its all.1)
  where
    by : (r : Ordering) → uid_order u e.0 ≡ r →
        AllByRecursion (λ (z : Uid × List ObjectState). AreFor lines z.0 z.1) (put_uid u states es) →
        AllByRecursion (λ (z : Uid × List ObjectState). AreFor lines z.0 z.1)
        (match_ordering r ((u, states) ∷ e ∷ es) ((e.0, states) ∷ es) (e ∷ put_uid u states es))
    by Less is ih = (its, all)
    by Equal is ih = (subst (λ w. AreFor lines w states) (order_exact u e.0 is) its, all.1)
    by Greater is ih = (all.0, ih)

module _ (lines : List Line) where
  abbrev ToPrepare : Work → Type 0
  ToPrepare w = entering.WorkSo (AreFor lines) w

  drop_for : (u : Uid) (m : List (Uid × List ObjectState)) → AllByRecursion (λ (e : Uid × List ObjectState). AreFor lines e.0 e.1) m →
      AllByRecursion (λ (e : Uid × List ObjectState). AreFor lines e.0 e.1) (Words.without_uid u m)
  drop_for u m all = all_without (λ (e : Uid × List ObjectState). AreFor lines e.0 e.1) u m all

  worked_for : (w : Work) (d : Disk) → ToPrepare w → OnDisk lines d → OnDisk lines (worked w d)
  worked_for Look d its all = all
  worked_for (PutInc i) d its all = all
  worked_for (Prepare role.Names u states) d its all = put_for lines u states (let z = d.names in z.pend) its all
  worked_for (Prepare role.Store u states) d its all = all
  worked_for (Commit role.Names u) d its all = drop_for u (let z = d.names in z.pend) all
  worked_for (Commit role.Store u) d its all = all
  worked_for (Abort role.Names u) d its all = drop_for u (let z = d.names in z.pend) all
  worked_for (Abort role.Store u) d its all = all
  worked_for (PutIntent u i) d its all = all
  worked_for (RemoveIntent u) d its all = all

  stopped_for : (how : Stop) (w : Work) (d : Disk) → ToPrepare w → OnDisk lines d → OnDisk lines (stopped how w d)
  stopped_for Before w d its all = all
  stopped_for After w d its all = worked_for w d its all
  stopped_for (InPart which) (Commit role.Names u) d its all = all
  stopped_for (InPart which) (Commit role.Store u) d its all = all
  stopped_for (InPart which) Look d its all = all
  stopped_for (InPart which) (PutInc i) d its all = all
  stopped_for (InPart which) (Prepare r u states) d its all = all
  stopped_for (InPart which) (Abort r u) d its all = all
  stopped_for (InPart which) (PutIntent u i) d its all = all
  stopped_for (InPart which) (RemoveIntent u) d its all = all

-- ---- what a Confirm changes

-- the marks name a store of the object
abbrev pub HasMark : ℕ → Marks → Type 0
HasMark x marks = (e : ℕ × ℕ) × In e marks × (e.0 ≡ x)

of_marked : (x s : ℕ) (marks : Marks) → In s (marked x marks) → HasMark x marks
of_marked x s marks i =
    let m = in_map {X = ℕ × ℕ} {Y = ℕ} (λ (z : ℕ × ℕ). z.1) s (filter (λ (z : ℕ × ℕ). z.0 == x) marks) i in
    let z = in_filter (λ (z : ℕ × ℕ). z.0 == x) m.0 marks m.1 in
    (m.0, z.0, eqb-true (let w = m.0 in w.0) x z.1)

same_list : (ns : List ℕ) → same_nodes ns ns ≡ true
same_list [] = refl
same_list (n ∷ ns) = λ i. same_number n i && same_list ns i

module _ (top : Uid) (excluded included : Marks) (d : Pair) where
  abbrev IsMarked : ℕ → Type 0
  IsMarked x = HasMark x excluded ⊎ HasMark x included

  some_mark : (x : ℕ) (e : Entry) → same_nodes (stores_after x excluded included e) e.stores ≡ false → IsMarked x
  some_mark x e off = by (marked x excluded) refl (marked x included) refl
    where
      by : (es : List ℕ) → marked x excluded ≡ es → (ns : List ℕ) → marked x included ≡ ns → IsMarked x
      by (s ∷ es) ex ns ic = inl (of_marked x s excluded (subst (In s) (sym ex) (inl refl)))
      by [] ex (s ∷ ns) ic = inr (of_marked x s included (subst (In s) (sym ic) (inl refl)))
      by [] ex [] ic =
          let no_way : true ≡ false = sym (same_list e.stores)
          ∙ (λ i. same_nodes (with_stores (sym ic i) (without_stores (sym ex i) e.stores)) e.stores) ∙ off in
          absurd (cc no_way)

  marked_entries : (grants : Grants) →
      AllByRecursion (λ (st : ObjectState). IsMarked st.uid.num) (entries_after top grants excluded included d)
  marked_entries [] = tt
  marked_entries (g ∷ gs) = by (held_at (entry g.0) d) (marked_entries gs)
    where
      Later : Type 0
      Later = AllByRecursion (λ (st : ObjectState). IsMarked st.uid.num) (entries_after top gs excluded included d)

      made : (s : ObjectState) (b : Bool) →
          same_nodes (stores_after g.0 excluded included (state_entry s)) (let e = state_entry s in e.stores) ≡ b →
          Later → AllByRecursion (λ (st : ObjectState). IsMarked st.uid.num) (cons_option (cond b None
          (Some (entry_state g.0 top s (stores_after g.0 excluded included (state_entry s))))) (entries_after top gs excluded included d))
      made s true is ih = ih
      made s false is ih = (some_mark g.0 (state_entry s) is, ih)

      by : (o : Option ObjectState) → Later → AllByRecursion (λ (st : ObjectState). IsMarked st.uid.num)
          (cons_option (entry_after top excluded included g.0 o) (entries_after top gs excluded included d))
      by None ih = ih
      by (Some s) ih =
          made s (same_nodes (stores_after g.0 excluded included (state_entry s)) (let e = state_entry s in e.stores)) refl ih

-- ---- a Confirm that was sent

-- who asks is a top by these lines, which has excluded each store that it marks so, and has each that it includes named
pub record IsConfirmOf (lines : List Line) (p : Path) (excluded included : Marks) : Type 0 where
  pub top : IsTopBy lines p
  pub fits : HasTopPath (acts lines) p
  pub left : (e : ℕ × ℕ) → In e excluded → is_among (leaves_of lines (let a = top.top in a.id) e.0) e.1 ≡ true
  pub joined : (e : ℕ × ℕ) → In e included → is_among (joins_of lines (let a = top.top in a.id) e.0) e.1 ≡ true

-- what is known of requests, with the paths of who asks
abbrev pub Ground : Seen → Type 0
Ground M = (Stood M × AsksAreSo M) × Pathed M

pub ground_keep : (hd : Header) → Keeps hd Ground
ground_keep hd = kept_both hd (λ M. Stood M × AsksAreSo M) Pathed (asking_keep hd)
    (keeps_given hd (λ M. Stood M × AsksAreSo M) Pathed (paths_keep hd))

module _ (S : Seen) (g : Ground S) where
  abbrev begun : List Action
  begun = g.1.1.0

  good : IsGoodOf begun S
  good = g.1.1.1.0

  pub right : AreRight new_book S.lines
  right = let w = g.1.1.1.2 in w.right

  alike : AreAlike begun (acts S.lines)
  alike = subst (AreAlike begun) (its_acts S.lines right) g.1.1.1.1

  pub confirm_of : (p : Post) (h : Head) (grants : Grants) (excluded included : Marks) → seen.In p S.sent →
      asks p.message ≡ Some (h, ask.Confirm grants excluded included) → IsConfirmOf S.lines h.path excluded included
  confirm_of p h grants excluded included there asked = record { top = top; fits = fits; left = left; joined = joined }
    where
      stood : Stood S
      stood = g.0.0

      own : AsksForItself stood.0.0.0.0.0.1.0 p.from (Some (h, ask.Confirm grants excluded included))
      own = subst (AsksForItself stood.0.0.0.0.0.1.0 p.from) asked (let z = stood.0.0.0.0.0.1 in (let y = z.2.1 in y.sent p there))

      so : AskSo S.lines (Some (h, ask.Confirm grants excluded included))
      so = subst (AskSo S.lines) asked (g.0.1 p there)

      is_top : actor h.path ≡ top_of h.path
      is_top = let o = own (top_of h.path) refl in o.same

      asker : IsAsker begun h.path
      asker = subst (FitsAsked begun p.message) asked (let w = good in w.fits p there)

      fits : HasTopPath (acts S.lines) h.path
      fits =
          let f = path_fits begun (acts S.lines) (let w = good in w.begun) alike asker.0 (in_from asker.0 begun asker.1) in
          subst (HasTopPath (acts S.lines)) asker.2 ((let z = f.top_is in z.path_is), (let z = f.top_is in z.tops_are))

      its : (a : Act) × In a (acts S.lines) × (a.uid ≡ act_of asker.0) × (a.kind ≡ (let b = asker.0 in b.kind))
      its = alike_to begun (acts S.lines) alike asker.0 (in_from asker.0 begun asker.1)

      unserial : (z : Kind) → (z ≡ kind.Serial → ⊥) → is_serial z ≡ false
      unserial kind.Serial other = absurd (other refl)
      unserial kind.Top other = refl
      unserial kind.Nested other = refl
      unserial kind.Constituent other = refl
      unserial kind.Independent other = refl

      plain : is_serial (let a = its.0 in a.kind) ≡ false
      plain = ap is_serial its.3 ∙ unserial (let b = asker.0 in b.kind) asker.3

      top : IsTopBy S.lines h.path
      top = is_top_by S.lines right h.path fits its.0 its.1 plain (its.2 ∙ ap actor asker.2 ∙ is_top)

      same : (a : Act) → In a (acts S.lines) → a.uid ≡ actor h.path → a ≡ top.top
      same a there its_uid = one_act (acts S.lines) (let s = its_sound S.lines right in s.distinct) a top.top there top.there
          (its_uid ∙ is_top ∙ sym top.uid)

      left : (e : ℕ × ℕ) → In e excluded → is_among (leaves_of S.lines (let a = top.top in a.id) e.0) e.1 ≡ true
      left e i = let z = so.1 e i in subst (λ (a : Act). is_among (leaves_of S.lines a.id e.0) e.1 ≡ true) (same z.0 z.1 z.2) z.3

      joined : (e : ℕ × ℕ) → In e included → is_among (joins_of S.lines (let a = top.top in a.id) e.0) e.1 ≡ true
      joined e i = let z = so.2 e i in subst (λ (a : Act). is_among (joins_of S.lines a.id e.0) e.1 ≡ true) (same z.0 z.1 z.2) z.3

-- what is prepared of entries at a Confirm is for its top
confirm_for : (lines : List Line) (p : Path) (grants : Grants) (excluded included : Marks) (d : Pair) →
    IsConfirmOf lines p excluded included →
    AreFor lines (top_of p) (entries_after (top_of p) grants excluded included d)
confirm_for lines p grants excluded included d c = all_each
    (λ (st : ObjectState). HasMark st.uid.num excluded ⊎ HasMark st.uid.num included)
    (λ (st : ObjectState). IsFor lines (top_of p) st.uid.num)
    (entries_after (top_of p) grants excluded included d) (λ st m. one st.uid.num m) (marked_entries (top_of p) excluded included d grants)
  where
    t : IsTopBy lines p
    t = c.top

    one : (x : ℕ) → HasMark x excluded ⊎ HasMark x included → IsFor lines (top_of p) x
    one x m = record {
      first = lines;
      more = [];
      are = sym (Words.append-nil lines);
      top = t.top;
      there = t.there;
      uid = t.uid;
      is_top = t.first;
      changes = ⊎_elim
          (λ e. inl (
            (let f = e.0 in f.1),
            subst (λ y. is_among (leaves_of lines (let a = t.top in a.id) y) (let f = e.0 in f.1) ≡ true) e.2
                (c.left e.0 e.1),
          ))
          (λ e. inr (
            (let f = e.0 in f.1),
            subst (λ y. is_among (joins_of lines (let a = t.top in a.id) y) (let f = e.0 in f.1) ≡ true) e.2
                (c.joined e.0 e.1),
          )) m;
    }

-- ---- nodes

all_later : (ls ms : List Line) (es : List Effect) → entering.AllSo (AreFor ls) es → entering.AllSo (AreFor (ls ++ ms)) es
all_later ls ms es all = entering.all_on (AreFor ls) (AreFor (ls ++ ms)) (are_later ls ms) es all

walk : (e k : ℕ) (v : Parts) (outs : List Effect) (d : Disk) (M : Seen) → entering.AllSo (AreFor M.lines) outs → OnDisk M.lines d →
    at_each.EachBut (HasFor M.lines) k M → Walks EntriesAreFor e k outs (Up EntriesAreFor k v) d M
walk e k v [] d M all its others = at_each.back (HasFor M.lines) k d (Some v) M its others
walk e k v (Do w ∷ es) d M all its others = (
  λ how. at_each.back (HasFor (M.lines ++ numbered e (body.Halted k ∷ []))) k (stopped how w d) None (said e (body.Halted k ∷ []) M)
      (disk_later M.lines (numbered e (body.Halted k ∷ [])) (stopped how w d) (stopped_for M.lines how w d all.0 its))
      (others_later k M.lines (numbered e (body.Halted k ∷ [])) M others),
  walk e k v es (worked w d) M all.1 (worked_for M.lines w d all.0 its) others,
)
walk e k v (Say b ∷ es) d M all its others = walk e k v es d (said e (b ∷ []) M) (all_later M.lines (numbered e (b ∷ [])) es all.1)
    (disk_later M.lines (numbered e (b ∷ [])) d its) (others_later k M.lines (numbered e (b ∷ [])) M others)
walk e k v (Send to m ∷ es) d M all its others = λ more quiet.
    walk e k v es d (said e more (posted (record { from = k; to = to; message = m }) M)) (all_later M.lines (numbered e more) es all.1)
    (disk_later M.lines (numbered e more) d its) (others_later k M.lines (numbered e more) M others)

-- ---- in every run

abbrev pub Entered : Seen → Type 0
Entered M = Ground M × EntriesAreFor M

beside : (e k : ℕ) (live : Option Parts) (v : Parts) (outs : List Effect) (d : Disk) (M : Seen) → entering.AllSo (AreFor M.lines) outs →
    EntriesAreFor (seen.at k d live M) → Walks Ground e k outs (Up Ground k v) d M → Walks Entered e k outs (Up Entered k v) d M
beside e k live v outs d M all are ground = walks_both Ground EntriesAreFor e k outs (Up Ground k v) (Up EntriesAreFor k v) d M ground
    (walk e k v outs d M all (at_each.own (HasFor M.lines) k d live M are) (at_each.others (HasFor M.lines) k d live M are))

each_later : (ls ms : List Line) (M : Seen) → at_each.Each (HasFor ls) M → at_each.Each (HasFor (ls ++ ms)) M
each_later ls ms M all j n is = disk_later ls ms n.disk (all j n is)

pub entered_keep : (hd : Header) → Keeps hd Entered
entered_keep hd = record {
  quiet = λ e bs M quiet g. (keeps.quiet e bs M quiet g.0, each_later M.lines (numbered e bs) M g.1);
  stop = λ e k d live M g. (
    keeps.stop e k d live M g.0,
    at_each.back (HasFor (M.lines ++ numbered e (body.Halted k ∷ []))) k d None (said e (body.Halted k ∷ []) M)
        (disk_later M.lines (numbered e (body.Halted k ∷ [])) d (at_each.own (HasFor M.lines) k d live M g.1))
        (others_later k M.lines (numbered e (body.Halted k ∷ [])) M (at_each.others (HasFor M.lines) k d live M g.1)),
  );
  message = λ e k d t v from m outs M g there meant is.
      let confirms = λ (h : Head) (grants : Grants) (excluded included : Marks)
      (asked : asks m ≡ Some (h, ask.Confirm grants excluded included)).
      confirm_for M.lines h.path grants excluded included d.names
      (confirm_of (up k d t M) g.0 (record { from = from; to = k; message = m }) h grants excluded included there asked) in
      beside e k (Some t) v outs d M
      (subst (entering.By (AreFor M.lines) k d t from m confirms) is (entering.message_so (AreFor M.lines) k d t from m confirms)) g.1
      (keeps.message e k d t v from m outs M g.0 there meant is);
  act = λ e k d t i M is free g. let did = acts_of i d.intents t.coord in
      beside e k (Some t) (with_coord t did.part) did.outs d M
      (entering.coord_so (AreFor M.lines) did.outs (acts_own i d.intents t.coord)) g.1
      (keeps.act e k d t i M is free g.0);
  begin = λ e k d t l how parent M new may free g. let did = begin_action l how parent (parent_of parent t.coord) t.coord in
      beside e k (Some t) (with_coord t did.part) did.outs d (given l (record { node = k; serial = is_serial how }) M) (tt, tt) g.1
      (keeps.begin e k d t l how parent M new may free g.0);
  tick = λ e k d t M g. let r = again_all t.coord.doings t.coord in
      beside e k (Some t) (with_coord t r.part) (tick_outs (record { number = k; disk = d; live = Some t }) t) d M
      (entering.tick_so (AreFor M.lines) k d t) g.1 (keeps.tick e k d t M g.0);
  restart = λ e k d M g. beside e k None (parts_in k (d.inc + 1) d) (restart_outs hd k (d.inc + 1) d) d M
      (entering.restart_so (AreFor M.lines) hd k d) g.1 (keeps.restart e k d M g.0);
  first = λ st formed. (
    keeps.first st formed,
    λ j n is. subst (λ (y : Node). OnDisk [] y.disk) (first_at hd st j n is) tt,
  );
}
  where
    keeps : Keeps hd Ground
    keeps = ground_keep hd

-- ---- what is found prepared

pub disk_for : (k : ℕ) (d : Disk) (live : Option Parts) (M : Seen) → EntriesAreFor (seen.at k d live M) → OnDisk M.lines d
disk_for k d live M all = at_each.own (HasFor M.lines) k d live M all

-- who has an entry prepared is such a top
pub pending_for : (lines : List Line) (o : Uid) (ps : List (Uid × List ObjectState)) →
    AllByRecursion (λ (e : Uid × List ObjectState). AreFor lines e.0 e.1) ps → (u : Uid) (s : ObjectState) → pending_of o ps ≡ Some (u, s) →
    IsFor lines u o.num
pending_for lines o [] all u s is = let no_way : ◌≡◌ {A = Option (Uid × ObjectState)} None (Some (u, s)) = is in absurd (cc no_way)
pending_for lines o (p ∷ ps) all u s is = by (find (λ (st : ObjectState). uid_eq st.uid o) p.1) refl is (pending_for lines o ps all.1 u s)
  where
    by : (f : Option ObjectState) → find (λ (st : ObjectState). uid_eq st.uid o) p.1 ≡ f →
        either (option_map (λ (st : ObjectState). (p.0, st)) f) (pending_of o ps) ≡ Some (u, s) →
        (pending_of o ps ≡ Some (u, s) → IsFor lines u o.num) → IsFor lines u o.num
    by None found e ih = ih e
    by (Some st) found e ih =
        let same : ◌≡◌ {A = Uid × ObjectState} (p.0, st) (u, s) = cc e in
        let r = in_find (λ (z : ObjectState). uid_eq z.uid o) st p.1 found in
        subst (λ w. IsFor lines w o.num) (ap (λ (z : Uid × ObjectState). z.0) same)
        (subst (λ (w : Uid). IsFor lines p.0 w.num) (uid_is st.uid o r.1) (each p.1 all.0 st r.0))
      where
        each : (states : List ObjectState) → AreFor lines p.0 states → (z : ObjectState) → In z states → IsFor lines p.0 z.uid.num
        each [] its z i = absurd i
        each (y ∷ ys) its z (inl is_it) = subst (λ (w : ObjectState). IsFor lines p.0 w.uid.num) is_it its.0
        each (y ∷ ys) its z (inr i) = each ys its.1 z i
