-- The meaning of an open request's fields.
use Rattle.pldm_exch.specs.Caller.{Open}
use Rattle.pldm_exch.specs.declared.caller.OpenRequest.{OpenRequest}

-- an open request: its tag is that of its message
abbrev pub open_of : OpenRequest → Open
open_of o =
    record {
      tag = o.message.tag;
      identifier = o.head.instance;
      pldm_type = o.head.pldm_type;
      command = o.head.command;
      message = o.message;
      age = o.age;
    }
