-- What messages claim of bindings and includes, for ever.
use Rattle.std.specs.Prelude.{⊤, ◌≡◌, ◌⊎◌, ◌≤◌, ℕ, true, List, [], ◌∷◌, Some}
use Rattle.std.specs.List.{AllByRecursion}
use Rattle.arj_lock.proofs.Members as list
use Rattle.arj_protocol.specs.Words.{Uid, Ask, Asked, Binding, BoundReply, Head, ObjectState, RecordedReply, asks}
use Rattle.arj_protocol.specs.Words.ask
use Rattle.arj_protocol.specs.Words.bound
use Rattle.arj_protocol.specs.Words.recorded
use Rattle.arj_protocol.specs.Ask.{Reply, actor, answers, asked_by, top_of}
use Rattle.arj_protocol.specs.Confirm.{Grants, Marks}
use Rattle.arj_protocol.specs.Effect.{Pair}
use Rattle.arj_protocol.specs.Order.{binding_less, binding_number, has}
use Rattle.arj_law_parts.specs.moves.Seen.{In}
use Rattle.arj_promise.specs.Runs.{Post}
use Rattle.arj_law_lock_view.specs.records.Tests.{Tests}

-- ---- answers

-- An answer to a Bind names a binding above the one to avoid; a live one was recorded, and one that was made comes with stores of the
-- entry; and an include asked the lock.
abbrev pub SaysBound : Tests → ℕ → Binding → Uid → BoundReply → Type 0
SaysBound T x avoid top (bound.Live b server i g stores) =
    (T.past x (binding_number b) ≡ true) × (T.made (binding_number b) ≡ true) × (binding_less avoid b ≡ true) × (T.low g ≡ true)
SaysBound T x avoid top (bound.Make b server g stores) = (T.made (binding_number b) ≡ true) × (binding_less avoid b ≡ true)
    × (T.low g ≡ true) × ((s : ℕ) → has stores s ≡ true → T.listed x (binding_number b) s ≡ true)
SaysBound T x avoid top (bound.Write g stores) = (T.asked x top g ≡ true) × (T.low g ≡ true)
SaysBound T x avoid top (bound.Conflict holder m) = ⊤

-- so it is of an answer of any kind
abbrev pub SaysBind : Tests → ℕ → Binding → Uid → Reply → Type 0
SaysBind T x avoid top (Reply.Bound r) = SaysBound T x avoid top r
SaysBind T x avoid top _ = ⊤

-- a Record that is answered Yes was recorded
abbrev pub SaysNoted : Tests → ℕ → Binding → RecordedReply → Type 0
SaysNoted T x b recorded.Yes = T.past x (binding_number b) ≡ true
SaysNoted T x b (recorded.Changed w) = ⊤

-- so it is of an answer of any kind
abbrev pub SaysNote : Tests → ℕ → Binding → Reply → Type 0
SaysNote T x b (Reply.Noted r) = SaysNoted T x b r
SaysNote T x b _ = ⊤

-- what an answer to a request claims
abbrev pub SaysReply : Tests → Uid → Ask → Reply → Type 0
SaysReply T top (ask.Bind x include avoid) r = SaysBind T x avoid top r
SaysReply T top (ask.Record x b i g) r = SaysNote T x b r
SaysReply T top _ r = ⊤

-- who is answered asked for it, and the answer claims so
pub record IsAnswer (T : Tests) (sent : List Post) (p : Post) (a : Asked) (r : Reply) : Type 0 where
  pub post : Post
  pub head : Head
  pub ask : Ask
  pub posted : In post sent
  pub from : post.from ≡ p.to
  pub asking : asks post.message ≡ Some (head, ask)
  pub asker : asked_by head ≡ a
  pub so : SaysReply T (top_of head.path) ask r

-- Each answer that was sent was asked for before, and claims so.
abbrev pub AreAnswered : Tests → List Post → Type 0
AreAnswered T [] = ⊤
AreAnswered T (p ∷ sent) = ((a : Asked) (r : Reply) → answers p.message ≡ Some (a, r) → IsAnswer T sent p a r) × AreAnswered T sent

-- The tests pass for what is so at first, and with a number for all that are lower; and the answers that were sent claim what passes.
pub record AreFitting (T : Tests) (sent : List Post) : Type 0 where
  pub zero : T.made 0 ≡ true
  pub down : (x v w : ℕ) → w ≤ v → T.past x v ≡ true → T.past x w ≡ true
  pub answered : AreAnswered T sent

-- ---- requests

-- the request is by a top of the node that sent it
abbrev pub AreByOwn : List Post → Type 0
AreByOwn sent = (p : Post) (h : Head) (a : Ask) → In p sent → asks p.message ≡ Some (h, a) → (let u = top_of h.path in u.node) ≡ p.from

-- a Bind avoids what was given, and a Record names a grant of naming's incarnations
abbrev pub SaysAsk : Tests → Ask → Type 0
SaysAsk T (ask.Bind x include avoid) = T.made (binding_number avoid) ≡ true
SaysAsk T (ask.Record x b i g) = T.low g ≡ true
SaysAsk T _ = ⊤

-- so it is of each message that was sent
abbrev pub AllSay : Tests → List Post → Type 0
AllSay T sent = (p : Post) (h : Head) (a : Ask) → In p sent → asks p.message ≡ Some (h, a) → SaysAsk T a

-- a Record of this top for the object was sent
pub record IsRecord (sent : List Post) (top : Uid) (x : ℕ) (b : Binding) (g : ℕ) : Type 0 where
  pub post : Post
  pub head : Head
  pub inc : ℕ
  pub posted : In post sent
  pub asking : asks post.message ≡ Some (head, ask.Record x b inc g)
  pub top_is : top_of head.path ≡ top

-- a Confirm of this top was sent
pub record IsConfirm (sent : List Post) (top : Uid) (grants : Grants) (excluded included : Marks) : Type 0 where
  pub post : Post
  pub head : Head
  pub posted : In post sent
  pub asking : asks post.message ≡ Some (head, ask.Confirm grants excluded included)
  pub top_is : top_of head.path ≡ top
  pub actor_is : actor head.path ≡ top

-- the object is marked
abbrev pub IsMarked : ℕ → Marks → Marks → Type 0
IsMarked x excluded included = (m : ℕ × ℕ) × (list.In m excluded ⊎ list.In m included) × (m.0 ≡ x)

-- the top asked the lock by an include, in no earlier incarnation than a grant that the Confirm names
abbrev pub HasIncluded : Tests → ℕ → Uid → Grants → Type 0
HasIncluded T x top grants = (c g : ℕ) × list.In (x, c) grants × (c ≤ g) × (T.asked x top g ≡ true)

-- Of an object that a top's Confirm marks, each binding that the top asked to record was recorded by then, or the top included a store.
abbrev pub ConfirmsSettle : Tests → List Post → Type 0
ConfirmsSettle T sent = (top : Uid) (grants : Grants) (excluded included : Marks) (x : ℕ) (b : Binding) (g : ℕ) →
    IsConfirm sent top grants excluded included → IsRecord sent top x b g → IsMarked x excluded included
    → (T.past x (binding_number b) ≡ true) ⊎ HasIncluded T x top grants

-- No Record is sent behind a Confirm of its top.
abbrev pub RecordsAreFirst : List Post → Type 0
RecordsAreFirst [] = ⊤
RecordsAreFirst (p ∷ sent) = ((h : Head) (x : ℕ) (b : Binding) (i g : ℕ) → asks p.message ≡ Some (h, ask.Record x b i g) →
    (grants : Grants) (excluded included : Marks) → IsConfirm sent (top_of h.path) grants excluded included → ⊥) × RecordsAreFirst sent

-- What is known of all that was sent: of requests, of Confirms, which are by tops, and of Records and Confirms.
pub record SentAreKnown (sent : List Post) : Type 0 where
  pub senders : AreByOwn sent
  pub tops : (p : Post) (h : Head) (grants : Grants) (excluded included : Marks) → In p sent →
      asks p.message ≡ Some (h, ask.Confirm grants excluded included) → actor h.path ≡ top_of h.path
  pub first : RecordsAreFirst sent
  pub claims : (T : Tests) → AreFitting T sent → AllSay T sent × ConfirmsSettle T sent

-- ---- entries

-- A prepared entry: its top's Confirm marks the object, with grants of one incarnation, which no Record of the top for the object names a
-- later one than.
pub record WasConfirmed (sent : List Post) (top : Uid) (x : ℕ) : Type 0 where
  pub grants : Grants
  pub excluded : Marks
  pub included : Marks
  pub confirm : IsConfirm sent top grants excluded included
  pub marked : IsMarked x excluded included
  pub inc : ℕ
  pub one : (c : ℕ) → list.In (x, c) grants → c ≡ inc
  pub late : (b : Binding) (g : ℕ) → IsRecord sent top x b g → g ≤ inc

-- so it is of each entry that is prepared
abbrev pub AreConfirmed : List Post → Pair → Type 0
AreConfirmed sent d = AllByRecursion (λ (e : Uid × List ObjectState). (s : ObjectState) → list.In s e.1 →
    WasConfirmed sent e.0 (let u = s.uid in u.num)) d.pend
