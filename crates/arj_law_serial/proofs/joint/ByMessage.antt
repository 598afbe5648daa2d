-- What a node makes of a message, by what the message is.
use Rattle.arj_law_parts.proofs.Words
use Words.{◌≡◌, ℕ, [], Option, Some, None, refl, Ask, Asked, Head, Message, asks, Reply, answers, heard, Coord, Disk, Served, Handled}
use Words.{Parts, Took, Void, by_reply, coord_heard, handle, handle_answer, handle_ask, handle_other, serve, with_coord}

module _ (k : ℕ) (d : Disk) (t : Parts) (from : ℕ) (Case : Handled → Type 0) (void : Case (Void [])) where
  -- the coordinator takes it, or it is void
  pub by_coord : (r : Served Coord (Unit {0})) → Case (Took (with_coord t r.part) r.outs) → Case (coord_heard t r)
  by_coord r taken = by r.reply
    where
      by : (o : Option (Unit {0})) → Case (by_reply (with_coord t r.part) r.outs o)
      by None = void
      by (Some u) = taken

  -- a request is served, an answer goes to the coordinator, and any other message is neither
  pub by_message : (m : Message) → ((h : Head) (a : Ask) → asks m ≡ Some (h, a) → Case (serve k d t from h a)) →
      ((a : Asked) (r : Reply) → answers m ≡ Some (a, r) → Case (coord_heard t (heard from a r d.intents t.coord))) →
      Case (handle_other k d t from m) → Case (handle k d t from m)
  by_message m asked hears other = by (asks m) refl
    where
      answer : (o : Option (Asked × Reply)) → answers m ≡ o → Case (handle_answer k d t from m o)
      answer None is = other
      answer (Some a) is = hears a.0 a.1 is

      by : (o : Option (Head × Ask)) → asks m ≡ o → Case (handle_ask k d t from m o)
      by None is = answer (answers m) refl
      by (Some a) is = asked a.0 a.1 is
