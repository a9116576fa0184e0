-- The gates that the code names, by their ports (02, L7: "Ports 0 to 2 now mean bump, rebound and preload").
use Rattle.std.specs.Prelude.{ℕ, ◌≡◌, ◌≤◌, ◌<◌, Result, Ok, Err}
use Rattle.commands.specs.Gates.{gates}
use Rattle.commands.specs.declared.gates.Gate.{Gate}
use Rattle.commands.specs.declared.gates.Gate.TheVariants.{Bump, Rebound, Preload}
use Rattle.commands.specs.declared.gates.NoGate.{NoGate}

abbrev pub port_of_gate : Gate → ℕ
port_of_gate Bump = 0
port_of_gate Rebound = 1
port_of_gate Preload = 2

-- what is said of a port: its gate, or that it has none
abbrev pub GateAt : ℕ → Result Gate NoGate → Type 0
GateAt port (Ok gate) = (port_of_gate gate ≡ port) × (port < gates)
GateAt port (Err none) = gates ≤ port
