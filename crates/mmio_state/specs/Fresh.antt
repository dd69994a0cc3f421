-- A fresh state (01, "What the gateway hands over"; the refusals and what is kept of a configuration are in mmio_config).
use Rattle.std.specs.Prelude.{Result, false, replicate}
use Rattle.words.specs.declared.Refusal.{Refusal}
use Rattle.virtq.specs.Index.{max_queues}
use Rattle.msi.specs.Stage.{no_message}
use Rattle.tape.specs.Held.{no_held}
use Rattle.mmio_config.specs.Fresh.{accepted, fresh_hot, fresh_queues, no_config, no_flags, no_vectors, refused_for, unless}
use Rattle.mmio_config.specs.declared.Configuration.{Configuration}
use Rattle.mmio_config.specs.declared.Config.{Config}
use Rattle.mmio_hot.specs.declared.Hot.{Hot}
use Rattle.mmio_state.specs.State.{State}

-- nothing active, nothing held, no message
abbrev pub begun : Hot → Config → State
begun h c =
    record {
      hot = h;
      config = c;
      flags = no_flags;
      stage = no_message;
      queues = fresh_queues c.sizes;
      held = replicate max_queues no_held;
      vectors = no_vectors;
    }

abbrev pub fresh_state : Configuration → State
fresh_state c = begun (fresh_hot c) (accepted c)

-- "no device": every word 0
abbrev pub no_hot : Hot
no_hot =
    record {
      status = 0;
      interrupts = 0;
      vendor = 0;
      page = 0;
      ackpage = 0;
      queue = 0;
      region = 0;
      doorbell = false;
      msi = false;
    }

abbrev pub no_state : State
no_state = begun no_hot no_config

unfoldable pub made : Configuration → Result State Refusal
made c = unless (refused_for c) (fresh_state c)
