pub mod MaskTable
