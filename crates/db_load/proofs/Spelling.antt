-- The table of the words has each where it is declared.
use Rattle.std.specs.Prelude.{◌≡◌, [], map, get_or}
use Rattle.std.proofs.Common.{refl}
use denote.Enum.Declared.{tag_of}
use Rattle.db_load.specs.contracts.word.Word.{the_type}
use Rattle.db_load.specs.declared.word.TheConstants.{SPELLED}
use Rattle.db_load.specs.declared.word.Word.{Word}
use Rattle.db_load.specs.declared.word.Word.TheVariants as word
use Rattle.db_load.specs.Words.{spelled}

pub at_its_place : (w : Word) → get_or (map (λ t. t.now) SPELLED) (tag_of the_type w) [] ≡ spelled w
unfolding spelled
at_its_place word.Netpdl = refl
at_its_place word.Variable = refl
at_its_place word.LookupTable = refl
at_its_place word.Key = refl
at_its_place word.Data = refl
at_its_place word.ShowTemplate = refl
at_its_place word.ShowSumStruct = refl
at_its_place word.Section = refl
at_its_place word.ShowSumTemplate = refl
at_its_place word.Text = refl
at_its_place word.ProtoField = refl
at_its_place word.PacketHdr = refl
at_its_place word.Protocol = refl
at_its_place word.ExecuteCode = refl
at_its_place word.Before = refl
at_its_place word.After = refl
at_its_place word.Format = refl
at_its_place word.Fields = refl
at_its_place word.Block = refl
at_its_place word.IncludeBlk = refl
at_its_place word.Field = refl
at_its_place word.Loop = refl
at_its_place word.LoopCtrl = refl
at_its_place word.Switch = refl
at_its_place word.Case = refl
at_its_place word.Default = refl
at_its_place word.If = refl
at_its_place word.IfTrue = refl
at_its_place word.IfFalse = refl
at_its_place word.AssignVariable = refl
at_its_place word.UpdateLookupTable = refl
at_its_place word.Encapsulation = refl
at_its_place word.NextProto = refl
at_its_place word.Name = refl
at_its_place word.Version = refl
at_its_place word.Creator = refl
at_its_place word.Date = refl
at_its_place word.Type = refl
at_its_place word.Value = refl
at_its_place word.Validity = refl
at_its_place word.ExactEntries = refl
at_its_place word.MaskEntries = refl
at_its_place word.Size = refl
at_its_place word.ShowType = refl
at_its_place word.ShowGrp = refl
at_its_place word.ShowSep = refl
at_its_place word.LongName = refl
at_its_place word.ShowSum = refl
at_its_place word.Show = refl
at_its_place word.Mask = refl
at_its_place word.Expr = refl
at_its_place word.Token = refl
at_its_place word.Align = refl
at_its_place word.MaxValue = refl
at_its_place word.Action = refl
at_its_place word.Table = refl
at_its_place word.KeepTime = refl
at_its_place word.HitTime = refl
at_its_place word.Proto = refl
at_its_place word.Num = refl
at_its_place word.Buf = refl
at_its_place word.Packet = refl
at_its_place word.Hex = refl
at_its_place word.Dec = refl
at_its_place word.Ascii = refl
at_its_place word.Timestamp = refl
at_its_place word.Len = refl
at_its_place word.Fixed = refl
at_its_place word.Bit = refl
at_its_place word.TokenEnded = refl
at_its_place word.Line = refl
at_its_place word.Padding = refl
at_its_place word.Count = refl
at_its_place word.While = refl
at_its_place word.Break = refl
at_its_place word.Continue = refl
at_its_place word.Add = refl
at_its_place word.KeepForever = refl
at_its_place word.KeepMaxTime = refl
at_its_place word.UpdateOnHit = refl
at_its_place word.AddOnHit = refl
