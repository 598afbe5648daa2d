-- Another walk is followed: what is seen doesn't depend on it.
use Rattle.arj_law_parts.proofs.Words
use Words.{ℕ, Bool, List, Option, Some, None, Uid, End, Kind, Line, Head, Asked, Ask, Message, asks, Reply, answers, last_end, Coord, Now}
use Words.{uid_number}
use Words.ending
use Words.kind
use Words.message
use Rattle.arj_law_disk_view.proofs.Terms.{World, State, Kinds, Walk, ClaimsAnswered, ClaimsEnd, ClaimsLast, ClaimsOther, SeesCoord, Works}
use Rattle.arj_law_disk_view.specs.view.Sees.{ClaimsAsked, WalksAreFollowed}

module _ (x : ℕ) (tops : Kinds) (o : Option Walk) where
  abbrev Now_tops : Kinds
  Now_tops = record tops { walk = o }

  works_on : (S : State) (t : ℕ) (k : Kind) (now : Now) → Works x tops S t k now → Works x Now_tops S t k now
  works_on S t kind.Nested now w = w
  works_on S t kind.Serial now w = w
  works_on S t kind.Top now w = w
  works_on S t kind.Independent now w = w
  works_on S t kind.Constituent now w = w

  coord_on : (k inc : ℕ) (c : Coord) (S : State) → SeesCoord x k inc tops c S → SeesCoord x k inc Now_tops c S
  coord_on k inc c S s = record {
    node = s.node;
    present = s.present;
    working = λ u b d there unended does. works_on S (uid_number u) b.kind d.now (s.working u b d there unended does);
    closed = s.closed;
    future = s.future;
    bare = s.bare;
  }

  end_on : (W : World) (to : ℕ) (e : Uid × End) → ClaimsEnd tops W to e → ClaimsEnd Now_tops W to e
  end_on W to (u, ending.Commit) c = c
  end_on W to (u, ending.Abort) c = c

  last_on : (W : World) (to : ℕ) (ack : Bool) (e : Option (Uid × End)) → ClaimsLast tops W to ack e → ClaimsLast Now_tops W to ack e
  last_on W to ack None c = tt
  last_on W to ack (Some e) c = (end_on W to e c.0, c.1)

  other_on : (W : World) (lines : List Line) (from to : ℕ) (m : Message) → ClaimsOther tops W lines from to m →
      ClaimsOther Now_tops W lines from to m
  other_on W lines from to (message.Told m) c = last_on W to m.ack (last_end m.ends) c
  other_on W lines from to (message.Acked m) c = c
  other_on W lines from to (message.Query m) c = c
  other_on W lines from to (message.Hello m) c = tt
  other_on W lines from to (message.Bind m) c = tt
  other_on W lines from to (message.Bound m) c = tt
  other_on W lines from to (message.Load m) c = tt
  other_on W lines from to (message.Loaded m) c = tt
  other_on W lines from to (message.Activate m) c = tt
  other_on W lines from to (message.Activated m) c = tt
  other_on W lines from to (message.RecordMsg m) c = tt
  other_on W lines from to (message.Recorded m) c = tt
  other_on W lines from to (message.Invoke m) c = tt
  other_on W lines from to (message.Invoked m) c = tt
  other_on W lines from to (message.Vote m) c = tt
  other_on W lines from to (message.Voted m) c = tt
  other_on W lines from to (message.Prepare m) c = tt
  other_on W lines from to (message.Prepared m) c = tt
  other_on W lines from to (message.Confirm m) c = tt
  other_on W lines from to (message.Confirmed m) c = tt

  answered_on : (W : World) (lines : List Line) (from to : ℕ) (m : Message) (a : Option (Asked × Reply)) →
      ClaimsAnswered x tops W lines from to m a → ClaimsAnswered x Now_tops W lines from to m a
  answered_on W lines from to m None c = other_on W lines from to m c
  answered_on W lines from to m (Some a) c = c

  asked_on : (W : World) (lines : List Line) (from to : ℕ) (m : Message) (a : Option (Head × Ask)) →
      ClaimsAsked x tops W lines from to m a → ClaimsAsked x Now_tops W lines from to m a
  asked_on W lines from to m None c = answered_on W lines from to m (answers m) c
  asked_on W lines from to m (Some a) c = c

pub walks_are_followed : WalksAreFollowed
walks_are_followed x tops o W M along s = record {
  whole = s.whole;
  along = along;
  fixed = record { root = s.fixed.root; serial = s.fixed.serial };
  kinds = s.kinds;
  stores = s.stores;
  entry = s.entry;
  records = s.records;
  coords = λ k n t is live. coord_on x tops o k n.disk.inc t.coord W.disk (s.coords k n t is live);
  notes = s.notes;
  downs = s.downs;
  confirmed = s.confirmed;
  posts = λ p i. asked_on x tops o W M.lines p.from p.to p.message (asks p.message) (s.posts p i);
}
