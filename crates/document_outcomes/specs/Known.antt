-- A service whose operation is known, so that its lines and what it does can be read off.
use Rattle.document.specs.declared.Operation.{Operation}
use Rattle.document.specs.declared.Service.{Service}

abbrev pub known_as : Operation → Service → Service
known_as operation s = record { operation = operation; ex = s.ex; size = s.size }
