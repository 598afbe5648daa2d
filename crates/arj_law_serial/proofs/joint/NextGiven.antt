-- What naming counts on of servers is given, where both machines of the object stand in one run.
use Rattle.arj_law_parts.proofs.Words
use Words.{◌≡◌, ℕ, List, Some, refl, sym, ◌∙◌, ap, subst, Head, Message, asks, Grants, Marks, Disk, Naming, Parts, uid_number, top_of, Seen}
use Words.ask
use Rattle.arj_law_serial.proofs.Terms
use Terms.{Values, Action, paths_of, begun_tree, path_found, KnowsFew, World, IsNext, Office, Kinds, node_here, IsAlikeOf, State, IsSeenIn}
use Terms.{Fixed, case_of, SeesLocks, AreTied, AreVotedAt, KnowsWhole, code_of, RequestsAreOne, In, up, AgreesApart, AreBasedSo}
use Terms.{ArePlannedSo, IsKnownJoined, IsOrdered}
use Rattle.arj_law_disk_view.specs.{deciding_lines.Said.IsTied, running.Rest.GivesNaming, running.Rest.IsHeardAt}
use Rattle.arj_law_disk_view.specs.{view.Confirming.IsNewConfirm}
use Rattle.arj_law_runs.specs.calls.Servers.{AreOneCall}
use Rattle.arj_law_serial.proofs.joint.{LastWriters.Idle, NextVersions.next_here, Turns.IdleThere}
use Rattle.arj_law_serial.proofs.order.{Codes.codes_are_apart, Seeing.agrees_at, Seeing.fixed_at}

-- The object is seen by its lock machine, for all that may be fixed and agrees, beside this world of its disk machine; and it is known over
-- which states copies and votes lie.
abbrev pub StandsBeside : Values → ℕ → World → Seen → Type 0
StandsBeside values x W M = (begun : List Action) × IsAlikeOf begun M × KnowsWhole x begun M
    × ((f : Fixed) → AgreesApart values M.start.marks f x begun M.sent →
    (S : State) × SeesLocks f x begun S M × AreTied f x M.lines S × AreVotedAt f x S M × ArePlannedSo f x S W M × AreBasedSo f x S W M)

-- the machine's decisions are those of the journal, in their order
abbrev pub IsTiedInOrder : World → Seen → Type 0
IsTiedInOrder W M = IsTied Idle W M × IsOrdered (IdleThere Idle) W M

-- its first state is by whom the object's mark names
abbrev pub IsFirstBy : ℕ → World → Seen → Type 0
IsFirstBy x W M = (let D = W.disk in let g = D.first in g.writer) ≡ uid_number (let m = M.start.marks.states x in m.writer)

-- what is known where a Confirm comes
abbrev pub KnowsPair : Values → ℕ → World → Seen → Type 0
KnowsPair values x W M = IsKnownJoined M × (StandsBeside values x W M × (IsTiedInOrder W M × IsFirstBy x W M))

-- calls of one request are one
pub one_requests : (x : ℕ) (begun : List Action) (M : Seen) → KnowsFew M → KnowsWhole x begun M → RequestsAreOne M
one_requests x begun M few whole =
    record { one = one_call; numbered = λ q at h a is. (let w = whole.works in let e = w.1 in e.requests q at h a is) }
  where
    one_call : AreOneCall M.sent
    one_call =
        let r = few.1.1 in
        let b = (let g = r.1 in g.begun) in
        let a = r.2 ((paths_of r.0), begun_tree r.0 b, path_found r.0 b) in
        a.one

module _ (values : Values) (x : ℕ) (tops : Kinds) (A : Office) (k : ℕ) (d : Disk) (t : Parts) (n : Naming) (from : ℕ) (m : Message)
    (h : Head) (grants : Grants) (excluded included : Marks) (M : Seen) (at : IsHeardAt x (KnowsPair values x) tops A (k, d, t) M)
    (sent : In (record { from = from; to = k; message = m }) M.sent)
    (named : t.naming ≡ Some n) (asking : asks m ≡ Some (h, ask.Confirm grants excluded included))
    (new : IsNewConfirm h.path grants excluded included d.names n) where
  abbrev U : Seen
  U = up k d t M

  abbrev pair : StandsBeside values x A.world U
  pair = (let r = at.run in r.1.0)

  abbrev begun : List Action
  begun = pair.0

  locks : (f : Fixed) → AgreesApart values U.start.marks f x begun U.sent → (S : State) × SeesLocks f x begun S U × AreTied f x U.lines S
  locks f a = let z = pair.3 f a in (z.0, z.1, z.2)

  few : KnowsFew U
  few = (let r = at.run in r.0.1.0)

  requests : RequestsAreOne U
  requests = one_requests x begun U few pair.2

  abbrev f : Fixed
  f = fixed_at values x U begun pair.1 (λ g apart a. locks g (a.0, (a.1, apart))) requests code_of

  agrees : AgreesApart values U.start.marks f x begun U.sent
  agrees = let a = agrees_at values x U begun pair.1 (λ g apart a. locks g (a.0, (a.1, apart))) requests code_of in
      (a.0, (a.1, codes_are_apart))

  abbrev S : State
  S = (pair.3 f agrees).0

  seen : IsSeenIn (case_of f x begun S) U
  seen = record {
    good = pair.1.0;
    alike = pair.1.1;
    written = pair.1.2;
    agrees = agrees.0;
    sees = (pair.3 f agrees).1;
    tied = (pair.3 f agrees).2;
  }

  first_node : k ≡ 1
  first_node = (let w = at.knows in w.naming_here n named).0

  pub next_at : IsNext A.world.disk (uid_number (top_of h.path))
  next_at =
      let r = at.run in
      next_here values x tops A U at.both at.heard at.decided r.0.0.1 r.0.1.1 few.1.1 f begun S (let w = pair.2 in w.parted) seen agrees.1.0
      codes_are_apart (pair.3 f agrees).3 (pair.3 f agrees).4 ((pair.3 f agrees).5 codes_are_apart).0 r.1.1.0.0 r.1.1.0.1 r.1.1.1
      (record { number = k; disk = d; live = Some t }) t n
      (ap U.nodes (sym first_node) ∙ node_here M k (record { number = k; disk = d; live = Some t })) refl named from m h grants excluded
      included (subst (λ (j : ℕ). In (record { from = from; to = j; message = m }) M.sent) first_node sent) asking new.free

pub gives_next : (values : Values) (x : ℕ) → GivesNaming x (KnowsPair values x)
gives_next values x = record {
  next = λ tops k d t n from m h grants excluded included M A at sent named asking new.
      next_at values x tops A k d t n from m h grants excluded included M at sent named asking new;
}
