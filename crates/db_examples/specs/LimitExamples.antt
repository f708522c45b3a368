-- The limits, as numbers: what they are stands here a second time, so that a slip in one of them is found.
use Rattle.std.specs.Prelude.{◌≡◌}
use Rattle.db_model.specs.declared.bytes.TheConstants as bytes
use Rattle.db_model.specs.declared.limits.TheConstants as most
use Rattle.db_model.specs.declared.names.TheConstants as names

-- what the decoding of one packet may use up, and where moments end
pub record PacketLimits : Type 0 where
  pub turns : most.MOST_TURNS ≡ 4096
  pub nodes : most.MOST_NODES ≡ 16384
  pub protocols : most.MOST_ENTERED ≡ 32
  pub questions : most.MOST_QUESTIONS ≡ 1024
  pub payload : most.PAYLOAD ≡ 65535
  pub second : most.SECOND ≡ 1000000000
  pub stamps : most.STAMP_END ≡ 4300000000000000000
  pub deadlines : most.DEADLINE_END ≡ 9000000000000000000
  pub bytes : bytes.MOST_BYTES ≡ 262144

-- how large expressions are, and how deep blocks nest
pub record FormLimits : Type 0 where
  pub nodes : most.MOST_EXPRESSION_NODES ≡ 256
  pub depth : most.MOST_EXPRESSION_DEPTH ≡ 32
  pub number : most.GREATEST_NUMBER ≡ 4294967295
  pub bytes : most.MOST_NUMBER_BYTES ≡ 4
  pub nested : most.MOST_NESTED ≡ 64
  pub text : most.MOST_TEXT ≡ 64
  pub name : names.MOST_NAME ≡ 64
  pub separator : most.MOST_SEPARATOR ≡ 8

-- how much a database declares
pub record DeclaredLimits : Type 0 where
  pub protocols : most.MOST_PROTOCOLS ≡ 1024
  pub variables : most.MOST_VARIABLES ≡ 256
  pub tables : most.MOST_TABLES ≡ 16
  pub show_templates : most.MOST_SHOW_TEMPLATES ≡ 256
  pub sum_templates : most.MOST_SUM_TEMPLATES ≡ 256
  pub sections : most.MOST_SECTIONS ≡ 16
  pub keys : most.MOST_KEYS ≡ 8
  pub columns : most.MOST_COLUMNS ≡ 8

-- how large what it declares is
pub record SizeLimits : Type 0 where
  pub key : most.MOST_KEY_SIZE ≡ 16
  pub column : most.MOST_COLUMN_SIZE ≡ 64
  pub exact : most.MOST_EXACT ≡ 65536
  pub over_all : most.MOST_EXACT_OVER_ALL ≡ 262144
  pub masked : most.MOST_MASKED ≡ 1024
  pub fixed : most.MOST_FIXED ≡ 65535
  pub bits : most.MOST_BIT_SIZE ≡ 4
  pub token : most.MOST_TOKEN ≡ 64
  pub least_alignment : most.LEAST_ALIGNMENT ≡ 2
  pub most_alignment : most.MOST_ALIGNMENT ≡ 256
  pub decimal : most.MOST_DECIMAL_GROUP ≡ 4
  pub group : most.MOST_GROUP ≡ 64
