-- The words of the outputs for the reasons that end a decoding.
use Rattle.std.specs.Prelude.{ℕ, List, codes}
use Rattle.db_model.specs.declared.tree.Reason.{Reason}
use Rattle.db_model.specs.declared.tree.Reason.TheVariants.{Short, Turns, Nodes, Protocols, Questions, NoField, NoHit, Range, Zero, Slice, Size, KeySize, DataSize}

abbrev pub reason_word : Reason → List ℕ
reason_word Short = codes "short"
reason_word Turns = codes "turns"
reason_word Nodes = codes "nodes"
reason_word Protocols = codes "protocols"
reason_word Questions = codes "questions"
reason_word NoField = codes "nofield"
reason_word NoHit = codes "nohit"
reason_word Range = codes "range"
reason_word Zero = codes "zero"
reason_word Slice = codes "slice"
reason_word Size = codes "size"
reason_word KeySize = codes "keysize"
reason_word DataSize = codes "datasize"
