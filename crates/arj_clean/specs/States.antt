-- States of an object, by their parts.
use Rattle.std.specs.Prelude.{ℕ, List}
use Rattle.arj_base.specs.Uid.{entry, object}
use Rattle.arj_base.specs.declared.state.Class.TheVariants as class
use Rattle.arj_base.specs.declared.state.Format.{Format}
use Rattle.arj_base.specs.declared.state.ObjectState.{ObjectState}
use Rattle.arj_base.specs.declared.uid.Uid.{Uid}
use Rattle.arj_class.specs.Forms.{payload_of}
use Rattle.arj_class.specs.Table.{class_of}
use Rattle.arj_class.specs.declared.value.Value.{Value}
use Rattle.arj_model.specs.Last.{entry_payload}
use Rattle.arj_start.specs.Start.{format_at}

-- the state of object x with this value, version and writer
abbrev pub state_with : Format → ℕ → Value → ℕ → Uid → ObjectState
state_with first x v version writer = record {
  uid = object x;
  class = class_of v;
  version = version;
  writer = writer;
  payload = payload_of v;
  format = format_at first version;
}

-- the entry of object x with these servers, stores, version and writer
abbrev pub entry_with : Format → ℕ → List ℕ → List ℕ → ℕ → Uid → ObjectState
entry_with first x servers stores version writer = record {
  uid = entry x;
  class = class.Entry;
  version = version;
  writer = writer;
  payload = entry_payload servers stores;
  format = format_at first version;
}
