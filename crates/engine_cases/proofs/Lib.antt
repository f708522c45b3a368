pub mod OneTable
