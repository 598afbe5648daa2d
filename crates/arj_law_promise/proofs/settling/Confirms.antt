-- What holds in every run of tops that naming was asked to confirm, so that naming aborts nothing that it prepared for a decided one.
use Rattle.arj_law_parts.proofs.Words
use Words.{◌≡◌, ◌⊎◌, ◌≤◌, ◌<◌, ◌∙◌, ◌++◌, ◌&&◌, ℕ, List, [], ◌∷◌, Bool, true, false, not, Option, Some, None, refl, sym, ap, subst, inl}
use Words.{inr, ⊎_elim, arith, Line, Asked, Head, Uid, asks, is_on, Reply, actor, answers, Grants, Marks, Intent, is_prepared}
use Words.{Naming, Parts, Node, Post, Seen, is_empty}
use Words.list
use Words.ask
use Words.confirmed
use Words.ending
use Rattle.arj_law_promise.proofs.Terms
use Terms.{In, book, is_decided, IsPartAsked, HasAcked, IsDemanded, WasRecorded, records_in}
use Terms.body
use Terms.role
use Rattle.arj_law_promise.proofs.settling.Cores.{IsDone, Recorded, split}
use Rattle.arj_law_serial.specs.whole.Acks.{record_in}

pub none_not : {A P : Type 0} {x : A} → None ≡ Some x → P
none_not {A} {P} {x} is = let no_way : ◌≡◌ {A = Option A} None (Some x) = is in absurd (cc no_way)

-- ---- what stands of a top at naming

-- its coordinator asked naming to confirm
pub record AsksConfirm (sent : List Post) (u : Uid) : Type 0 where
  pub post : Post
  pub head : Head
  pub grants : Grants
  pub excluded : Marks
  pub included : Marks
  pub posted : In post sent
  pub to : (let p = post in p.to) ≡ 1
  pub asking : asks (let p = post in p.message) ≡ Some (head, ask.Confirm grants excluded included)
  pub by : actor (let h = head in h.path) ≡ u

-- a store is marked
abbrev pub has_marks : Marks → Marks → Bool
has_marks excluded included = not (is_empty excluded && is_empty included)

-- and what naming was asked marks a store
abbrev pub AsksMarked : List Post → Uid → Type 0
AsksMarked sent u = (c : AsksConfirm sent u) × (has_marks c.excluded c.included ≡ true)

-- what naming was asked names grants of no later incarnation than this
abbrev pub IsFixed : ℕ → List Post → Uid → Type 0
IsFixed inc sent u = (c : AsksConfirm sent u) × ((g : ℕ × ℕ) → list.In g c.grants → g.1 ≤ inc)

-- of earlier ones alone
abbrev pub IsLate : ℕ → List Post → Uid → Type 0
IsLate inc sent u = (c : AsksConfirm sent u) × ((g : ℕ × ℕ) → list.In g c.grants → g.1 < inc)

-- naming confirmed it
abbrev pub SaidConfirmed : List Post → Uid → Type 0
SaidConfirmed sent u = (p : Post) × In p sent × (a : Asked) × (answers p.message ≡ Some (a, Reply.Confirmed confirmed.Yes)) × (a.act ≡ u)

-- in these lines, behind those, naming aborts nothing of a decided top
abbrev pub AreUndecided : List Line → List Line → Type 0
AreUndecided first lines = (before : List Line) (line : Line) (behind : List Line) (n : ℕ) (u : Uid) → lines ≡ before ++ line ∷ behind →
    line.body ≡ body.Done n u role.Names ending.Abort → is_decided (book (first ++ before)) u ≡ true → ⊥

-- Naming's memory: it has the disk's incarnation; whom it confirmed named grants of no later one; and what it acknowledged of a decided top
-- it was told, or the top's grants are of earlier incarnations.
pub record IsNamer (M : Seen) (t : Parts) (n : Naming) : Type 0 where
  pub inc : n.inc ≡ (let c = t.coord in let z = c.tree in z.inc)
  pub confirmed : (u : Uid) → is_on n.confirmed u ≡ true → IsFixed n.inc M.sent u
  pub acked : (u : Uid) → HasAcked M.sent u 1 → IsDone M u → AsksMarked M.sent u → (is_on n.told u ≡ true) ⊎ IsLate n.inc M.sent u

-- Node 1: whoever has an entry prepared asked for it by marks, with grants of no later incarnation, as did whom it confirmed; and what it
-- acknowledged of a decided top it has prepared no more.
pub record IsNamesNode (M : Seen) (a : Node) : Type 0 where
  pub held : (u : Uid) → is_prepared u (let d = a.disk in d.names) ≡ true → IsFixed (let d = a.disk in d.inc) M.sent u × AsksMarked M.sent u
  pub yeses : (u : Uid) → SaidConfirmed M.sent u → IsFixed (let d = a.disk in d.inc) M.sent u
  pub acked : (u : Uid) → HasAcked M.sent u 1 → IsDone M u → AsksMarked M.sent u → is_prepared u (let d = a.disk in d.names) ≡ false
  pub live : (t : Parts) (n : Naming) → a.live ≡ Some t → t.naming ≡ Some n → IsNamer M t n

-- A decided top that asked naming by marks was recorded, and naming confirmed it; naming aborts nothing of a decided top; and so it is of
-- node 1.
pub record IsConfirming (M : Seen) : Type 0 where
  pub recorded : (u : Uid) → AsksMarked M.sent u → IsDone M u → WasRecorded (records_in M.nodes) M.sent u
  pub said : (u : Uid) → AsksMarked M.sent u → IsDone M u → SaidConfirmed M.sent u
  pub lines : AreUndecided [] M.lines
  pub node : (a : Node) → M.nodes 1 ≡ Some a → IsNamesNode M a

-- ---- more that was sent

abbrev asks_on : (sent more : List Post) → ((p : Post) → In p sent → In p more) → (u : Uid) → AsksConfirm sent u → AsksConfirm more u
asks_on sent more on u c = record {
  post = c.post;
  head = c.head;
  grants = c.grants;
  excluded = c.excluded;
  included = c.included;
  posted = on c.post c.posted;
  to = c.to;
  asking = c.asking;
  by = c.by;
}

pub marked_on : (sent more : List Post) → ((p : Post) → In p sent → In p more) → (u : Uid) → AsksMarked sent u → AsksMarked more u
marked_on sent more on u c = (asks_on sent more on u c.0, c.1)

pub fixed_on : (inc next : ℕ) (sent more : List Post) → inc ≤ next → ((p : Post) → In p sent → In p more) → (u : Uid) → IsFixed inc sent u →
    IsFixed next more u
fixed_on inc next sent more up on u c = (asks_on sent more on u c.0, λ g i. let low = c.1 g i in omega (arith, low, up))

pub late_on : (inc : ℕ) (sent more : List Post) → ((p : Post) → In p sent → In p more) → (u : Uid) → IsLate inc sent u → IsLate inc more u
late_on inc sent more on u c = (asks_on sent more on u c.0, c.1)

-- behind a restart
pub fixed_late : (inc next : ℕ) (sent : List Post) (u : Uid) → inc < next → IsFixed inc sent u → IsLate next sent u
fixed_late inc next sent u up c = (c.0, λ g i. let low = c.1 g i in omega (arith, low, up))

pub demanded_on : (sent more : List Post) → ((p : Post) → In p sent → In p more) → (u : Uid) → IsDemanded sent u → IsDemanded more u
demanded_on sent more on u a = record { post = a.post; posted = on a.post a.posted; demands = a.demands }

-- it was asked for a part
pub part_of_it : (sent : List Post) (u : Uid) → AsksConfirm sent u → IsPartAsked sent u 1
part_of_it sent u c = record {
  post = c.post;
  head = c.head;
  ask = ask.Confirm c.grants c.excluded c.included;
  there = c.posted;
  to_it = c.to;
  is = c.asking;
  part = refl;
  by = c.by;
}

-- the records, by either name
pub to_records : (M : Seen) (u : Uid) → Recorded M u → (i : Intent) × (records_in M.nodes u ≡ Some i)
to_records M u r = (r.1, ap (record_in u) r.2 ∙ r.3)

from_records : (M : Seen) (u : Uid) (i : Intent) → records_in M.nodes u ≡ Some i → Recorded M u
from_records M u i is = by (M.nodes u.node) refl is
  where
    by : (o : Option Node) → M.nodes u.node ≡ o → record_in u o ≡ Some i → Recorded M u
    by None none e = absurd (let no_way : ◌≡◌ {A = Option Intent} None (Some i) = e in cc no_way)
    by (Some a) found e = (a, i, found, e)

-- ---- from one moment to another

-- What has to be shown of a step so that it goes on.
pub record IsFurther (M N : Seen) : Type 0 where
  pub more : List Line
  pub lines : N.lines ≡ M.lines ++ more
  pub sent : (p : Post) → In p M.sent → In p N.sent
  pub done : (u : Uid) → IsDone N u →
      IsDone M u ⊎ (AsksMarked M.sent u → WasRecorded (records_in N.nodes) N.sent u × SaidConfirmed N.sent u)
  pub asked : (u : Uid) → AsksMarked N.sent u → AsksMarked M.sent u ⊎ (IsDone N u → ⊥)
  pub recorded : (u : Uid) → Recorded M u → WasRecorded (records_in N.nodes) N.sent u
  pub clean : AreUndecided M.lines more
  pub node : (a : Node) → N.nodes 1 ≡ Some a → IsNamesNode N a

pub further : (M N : Seen) → IsConfirming M → IsFurther M N → IsConfirming N
further M N h f = record {
  recorded = λ u asked done. ⊎_elim (λ old. ⊎_elim (λ was. stays u (h.recorded u old was)) (λ new. (new old).0) (f.done u done))
      (λ new. absurd (new done)) (f.asked u asked);
  said = λ u asked done. ⊎_elim (λ old. ⊎_elim (λ was. let s = h.said u old was in
      (s.0, f.sent s.0 s.1, s.2, s.3, s.4)) (λ new. (new old).1) (f.done u done)) (λ new. absurd (new done)) (f.asked u asked);
  lines = λ before line behind n u is says decided. ⊎_elim
      (λ front. h.lines before line front.0 n u front.1 says decided)
      (λ s. f.clean s.0 line behind n u s.2 says (subst (λ ls. is_decided (book ls) u ≡ true) s.1 decided))
      (split M.lines f.more before line behind (sym f.lines ∙ is));
  node = f.node;
}
  where
    stays : (u : Uid) → WasRecorded (records_in M.nodes) M.sent u → WasRecorded (records_in N.nodes) N.sent u
    stays u (inl r) = f.recorded u (from_records M u r.0 r.1)
    stays u (inr d) = inr (demanded_on M.sent N.sent f.sent u d)

-- ---- node 1 where its entries and its memory stay, or less is prepared

-- naming's memory of ends: no end is forgotten, and nobody more confirmed
pub record IsSameMemory (m n : Naming) : Type 0 where
  pub inc : n.inc ≡ m.inc
  pub told : (u : Uid) → is_on m.told u ≡ true → is_on n.told u ≡ true
  pub confirmed : (u : Uid) → is_on n.confirmed u ≡ true → is_on m.confirmed u ≡ true

pub same_memory : (n : Naming) → IsSameMemory n n
same_memory n = record { inc = refl; told = λ u on. on; confirmed = λ u on. on }

-- so it is of naming, where it is there
abbrev pub Remembers : Option Parts → Option Parts → Type 0
Remembers before after = (t : Parts) (n : Naming) → after ≡ Some t → t.naming ≡ Some n
    → (s : Parts) × (m : Naming) × (before ≡ Some s) × (s.naming ≡ Some m) × IsSameMemory m n
    × ((let c = t.coord in let z = c.tree in z.inc) ≡ (let c = s.coord in let z = c.tree in z.inc))

module _ (M N : Seen) (a b : Node) (h : IsNamesNode M a) (inc : (let d = a.disk in d.inc) ≤ (let d = b.disk in d.inc)) (names : (u : Uid) →
    is_prepared u (let d = b.disk in d.names) ≡ true → is_prepared u (let d = a.disk in d.names) ≡ true)
    (sent : (p : Post) → In p M.sent → In p N.sent)
    (acked : (u : Uid) → HasAcked N.sent u 1 → IsDone N u → AsksMarked N.sent u → HasAcked M.sent u 1 × IsDone M u × AsksMarked M.sent u)
    (yes_said : (u : Uid) → SaidConfirmed N.sent u → SaidConfirmed M.sent u) where
  -- its entries
  module _ (live : (t : Parts) (n : Naming) → b.live ≡ Some t → t.naming ≡ Some n → IsNamer N t n) where
    pub with_memory : IsNamesNode N b
    with_memory = record {
      held = λ u on. let p = h.held u (names u on) in
          (fixed_on (let d = a.disk in d.inc) (let d = b.disk in d.inc) M.sent N.sent inc sent u p.0, marked_on M.sent N.sent sent u p.1);
      yeses = λ u y. fixed_on (let d = a.disk in d.inc) (let d = b.disk in d.inc) M.sent N.sent inc sent u (h.yeses u (yes_said u y));
      acked = λ u has done asked. let o = acked u has done asked in
          off (is_prepared u (let d = b.disk in d.names)) (is_prepared u (let d = a.disk in d.names)) (names u) (h.acked u o.0 o.1 o.2);
      live = live;
    }
      where
        off : (x y : Bool) → (x ≡ true → y ≡ true) → y ≡ false → x ≡ false
        off false y to none = refl
        off true y to none = absurd (let no_way : true ≡ false = sym (to refl) ∙ none in cc no_way)

  pub still_names : Remembers a.live b.live → IsNamesNode N b
  still_names memory = with_memory live
    where
      live : (t : Parts) (n : Naming) → b.live ≡ Some t → t.naming ≡ Some n → IsNamer N t n
      live t n up there =
          let r = memory t n up there in
          let o = h.live r.0 r.1 r.2 r.3 in
          let m = r.4 in
          let same : n.inc ≡ (let z = r.1 in z.inc) = m.inc in
          record {
            inc = same ∙ o.inc ∙ sym r.5;
            confirmed = λ u on. subst (λ i. IsFixed i N.sent u) (sym same) (fixed_on (let z = r.1 in z.inc) (let z = r.1 in
                z.inc) M.sent N.sent (omega arith) sent u (o.confirmed u (m.confirmed u on)));
            acked = λ u has done asked. let q = acked u has done asked in ⊎_elim (λ told. inl (m.told u told)) (λ late. inr (subst
                (λ i. IsLate i N.sent u) (sym same) (late_on (let z = r.1 in z.inc) M.sent N.sent sent u late))) (o.acked u q.0 q.1 q.2);
          }
